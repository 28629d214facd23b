-- Read in this order: Hearing (what a picture hears of a bench), Lesson (the statements).
pub mod Hearing
pub mod Lesson
