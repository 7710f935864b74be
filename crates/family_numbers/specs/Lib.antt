pub mod Numbers
pub mod BaseTables
