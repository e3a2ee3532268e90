-- S-records: their definition. Records has what a record is, Reading and Writing what becomes of a text and of a range of memory.
pub mod Records
pub mod Reading
pub mod Writing
pub mod TextCalls
pub mod TextRun
