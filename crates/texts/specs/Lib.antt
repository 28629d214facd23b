-- The texts that are made of a picture; the contracts cite these.
pub mod Text
pub mod Lines
pub mod Sheets
pub mod Listing
pub mod Plans
pub mod TextStatements
