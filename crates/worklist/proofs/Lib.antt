-- What is true of worklists:
--   Bytes, Number, Lists     which bytes are which, and the fields' checks digit by digit
--   Front, Record            laws of going on, and of the grammar's steps
--   Plain, Quoted, Fields    a field: the grammar with the field's check is what the reader from the front reads
--   SameRow, File            a row (row-same) and a file (worklist-same): both readers say the same
--   Fuel, Loop, Members      the bounds cut off nothing; rows and lists as loops read them
--   Grammar                  csv is the RFC's grammar, rule by rule (csv-is, csv-reads)
--   Clean                    a good row holds digits, commas and quotes alone (row-reads)
--   Outcome                  all of it in the grammar's words (answer, says-read, fault-read)
--   Digits, Reading, Kept, Listing, RowParts, Passing
--                            the code's readers part by part, and the first pass
--   Entering, Taking         the second pass, and the answer
--   Claims                   what is claimed of taking a worklist
pub mod Bytes
pub mod Number
pub mod Front
pub mod Record
pub mod Plain
pub mod Lists
pub mod Quoted
pub mod Fields
pub mod SameRow
pub mod File
pub mod Fuel
pub mod Loop
pub mod Members
pub mod Grammar
pub mod Clean
pub mod Outcome
pub mod Digits
pub mod Reading
pub mod Kept
pub mod Listing
pub mod RowParts
pub mod Passing
pub mod Entering
pub mod Taking
pub mod Claims
