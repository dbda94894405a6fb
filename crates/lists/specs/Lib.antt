-- Lists by number, and tests of their entries.
pub mod Lists
-- proved of the definitions above, and of tests
pub mod Laws
