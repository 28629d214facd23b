-- The result word; and what the code's arms are called with. Read in this order.
pub mod Words
pub mod Arms
