-- Rows as the code reads them, without a tokenizer; and what the code's readers answer.
pub mod Rows
pub mod Read
