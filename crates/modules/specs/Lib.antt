-- What a module's entry and exchange do to a picture's bytes, for every list of bytes; the contracts cite these.
pub mod Records
