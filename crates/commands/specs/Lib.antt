-- A command heard by the module in a slot: its number and the bytes after it; and what the code's arms are called with. Read in this order.
pub mod Commands
pub mod Arms
