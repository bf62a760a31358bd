-- Document 01 as definitions, one module for each idea, in document 01's order:
--   The sheet          Sheet, Field, Read, Render, Edit
--   Refusals           Refusal (the numbers; each rule names its own where it is judged)
--   Loads and settling Instance, Load, Settle
--   One trial          Trial, Group
--   Planning           Balance, LowerBound, Plan (as document 02, C-14 divides it)
--   Runs               Run
--   The listing        Lent, Listing
--   Cases              Cases, and Text, in which its files are written
-- Csv, Grammar and Worklist are document 02's C-18: files of RFC 4180 on their own, and worklists; WorklistCases has their tables.
-- Interleave is C-19: edits of different batches, and lists of them by turns.
-- Journal, calls and answers as texts, is not in document 01. Round, Rewrite, Moves and Marks are document 02's C-12 to C-15; Filed has
-- C-14's two calls for hosts that keep their sheet as a file.
-- Fold has the lists by number and the folds over 1 to k that all of them use.
pub mod Fold
pub mod Refusal
pub mod Sheet
pub mod Field
pub mod Read
pub mod Render
pub mod Rewrite
pub mod Edit
pub mod Instance
pub mod Load
pub mod Settle
pub mod Trial
pub mod Group
pub mod Balance
pub mod LowerBound
pub mod Marks
pub mod Round
pub mod Plan
pub mod Moves
pub mod Run
pub mod Interleave
pub mod Lent
pub mod Listing
pub mod Journal
pub mod Filed
pub mod Csv
pub mod Grammar
pub mod Worklist
pub mod Text
pub mod Cases
pub mod WorklistCases
