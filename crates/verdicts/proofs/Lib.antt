-- A command of lowest priority to the bench's own address.
pub mod Own
