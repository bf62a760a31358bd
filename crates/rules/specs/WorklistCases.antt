-- The corners of RFC 4180 and of document 02's C-18, each in a table with a theorem over it (proofs/WorklistCases).
use Rattle.std.specs.Prelude.{ℕ, zero, suc, List, [], ◌∷◌, ◌++◌, map, replicate}
use Prim.Native.String.{String}
use Rattle.rules.specs.Lent.{Due, text, refusal, Hosted}
use Rattle.rules.specs.Text.{bytes, lines}
use Rattle.rules.specs.Csv.{Csv, csv}
use Rattle.rules.specs.Worklist.{Row, Worklist, rows, faulty_row, taken, taken_due, take_host}

-- ---- files of RFC 4180

-- a file, its records before the first that is not of the form, and that record's number
pub record CsvCase : Type 0 where
  pub file : List ℕ
  pub says : Csv

abbrev pub csv_case : String → List (List String) → ℕ → CsvCase
csv_case t rs k = record { file = bytes t; says = record { records = map (map bytes) rs; fault = k } }

unfoldable pub csv_table : List CsvCase
csv_table =
    csv_case "" (("" ∷ []) ∷ []) 0
    ∷ csv_case "\r\n" (("" ∷ []) ∷ []) 0
    ∷ csv_case "\r\n\r\n" (("" ∷ []) ∷ ("" ∷ []) ∷ []) 0
    -- the RFC's own examples
    ∷ csv_case "aaa,bbb,ccc\r\nzzz,yyy,xxx\r\n" (("aaa" ∷ "bbb" ∷ "ccc" ∷ []) ∷ ("zzz" ∷ "yyy" ∷ "xxx" ∷ []) ∷ []) 0
    ∷ csv_case "aaa,bbb,ccc\r\nzzz,yyy,xxx" (("aaa" ∷ "bbb" ∷ "ccc" ∷ []) ∷ ("zzz" ∷ "yyy" ∷ "xxx" ∷ []) ∷ []) 0
    ∷ csv_case "\"aaa\",\"bbb\",\"ccc\"\r\nzzz,yyy,xxx" (("aaa" ∷ "bbb" ∷ "ccc" ∷ []) ∷ ("zzz" ∷ "yyy" ∷ "xxx" ∷ []) ∷ []) 0
    ∷ csv_case "\"aaa\",\"b\r\nbb\",\"ccc\"\r\nzzz,yyy,xxx" (("aaa" ∷ "b\r\nbb" ∷ "ccc" ∷ []) ∷ ("zzz" ∷ "yyy" ∷ "xxx" ∷ []) ∷ []) 0
    ∷ csv_case "\"aaa\",\"b\"\"bb\",\"ccc\"" (("aaa" ∷ "b\"bb" ∷ "ccc" ∷ []) ∷ []) 0
    -- ours
    ∷ csv_case "a,,\r\n\r\n~ !#+-" (("a" ∷ "" ∷ "" ∷ []) ∷ ("" ∷ []) ∷ ("~ !#+-" ∷ []) ∷ []) 0
    ∷ csv_case "\"\",\"\"\"\"" (("" ∷ "\"" ∷ []) ∷ []) 0
    ∷ csv_case "\"1,2\",\"x\ny\rz\"\r\n" (("1,2" ∷ "x\ny\rz" ∷ []) ∷ []) 0
    ∷ csv_case "a\nb" [] 1
    ∷ csv_case "a\n\nb" [] 1
    ∷ csv_case "a\rbc" [] 1
    ∷ csv_case "a,b\r" [] 1
    ∷ csv_case "\"a\"b" [] 1
    ∷ csv_case "a\r\nb\"c\r\nd" (("a" ∷ []) ∷ []) 2
    ∷ csv_case "a\r\n\"b\r\nc" (("a" ∷ []) ∷ []) 2
    ∷ csv_case "a\r\n\"b\t\"" (("a" ∷ []) ∷ []) 2
    ∷ csv_case "a\r\nb\u{7f}" (("a" ∷ []) ∷ []) 2
    -- the bytes next to those that a field may hold
    ∷ csv_case "\u{1f}" [] 1
    ∷ csv_case "\u{80}" [] 1
    ∷ csv_case "ÿ" [] 1
    ∷ csv_case "\"\u{1f}\"" [] 1
    ∷ csv_case "\"\u{7f}\"" [] 1
    ∷ csv_case "\"\u{80}\"" [] 1
    ∷ csv_case "\"ÿ\"" [] 1
    ∷ []

unfoldable pub as_csv : List CsvCase → List Csv
as_csv t = map (λ (c : CsvCase). csv c.file) t

unfoldable pub csv_said : List CsvCase → List Csv
csv_said t = map (λ (c : CsvCase). c.says) t

-- ---- worklists

-- a file, and what it says
pub record Case : Type 0 where
  pub file : List ℕ
  pub says : Worklist

abbrev pub case : String → Worklist → Case
case t w = record { file = bytes t; says = w }

abbrev pub row : ℕ → ℕ → ℕ → List ℕ → Row
row t p k l = record { minutes = t; place = p; mark = k; list = l }

-- a well-formed row, alone in its file
abbrev pub good : Worklist
good = rows (row 30 1 0 (1 ∷ []) ∷ [])

unfoldable pub table : List Case
table =
    -- how files begin and end
    case "" (faulty_row 1)
    ∷ case "\r\n" (faulty_row 1)
    ∷ case "30,1,0,1" good
    ∷ case "30,1,0,1\r\n" good
    ∷ case "30,1,0,1\r\n\r\n" (faulty_row 2)
    ∷ case "30,1,0,1\r\n30,1,0,1\r\n\r\n30,1,0,1\r\n" (faulty_row 3)
    ∷ case "30,1,0,1\r\n20,2,1,2" (rows (row 30 1 0 (1 ∷ []) ∷ row 20 2 1 (2 ∷ []) ∷ []))
    -- an LF or a CR alone
    ∷ case "30,1,0,1\n" (faulty_row 1)
    ∷ case "30,1,0,1\r" (faulty_row 1)
    ∷ case "30,1,0,1\n30,1,0,1" (faulty_row 1)
    ∷ case "30,1,0,1\r\n30,1,0,1\n" (faulty_row 2)
    ∷ case "30,1,0,1\r\n30,1,0,1\r" (faulty_row 2)
    ∷ case "30,1\r,0,1" (faulty_row 1)
    -- CR and LF in quotes are of the same row
    ∷ case "30,1,0,1\r\n30,\"\r\n\",0,1\r\n1,1" (faulty_row 2)
    ∷ case "30,1,0,\"1\r\n\"\r\n30,1,0,1" (faulty_row 1)
    -- quotes
    ∷ case "\"30\",\"1\",\"0\",\"1\"" good
    ∷ case "30,\"1\",0,\"1\"\r\n" good
    ∷ case "3\"0,1,0,1" (faulty_row 1)
    ∷ case "30\",1,0,1" (faulty_row 1)
    ∷ case "\"30\"0,1,0,1" (faulty_row 1)
    ∷ case "\"30\" ,1,0,1" (faulty_row 1)
    ∷ case "\"3\"\"0\",1,0,1" (faulty_row 1)
    ∷ case "30,1,0,\"1\"\"" (faulty_row 1)
    ∷ case "30,1,0,1\r\n\"30,1,0,1\r\n30,1,0,1\r\n" (faulty_row 2)
    -- bytes outside 0x20 to 0x7_e, also in quotes
    ∷ case "30\t,1,0,1" (faulty_row 1)
    ∷ case "\"30\t\",1,0,1" (faulty_row 1)
    ∷ case "30,1,0,1\r\n\u{7f},1,0,1" (faulty_row 2)
    ∷ case "30,\u{80},0,1" (faulty_row 1)
    ∷ case "30,1,0,1\0" (faulty_row 1)
    -- spaces belong to the field
    ∷ case " 30,1,0,1" (faulty_row 1)
    ∷ case "30, ,0,1" (faulty_row 1)
    ∷ case "30,1,0,\"1, 2\"" (faulty_row 1)
    -- the place alone may be empty
    ∷ case "30,,0,1" (rows (row 30 0 0 (1 ∷ []) ∷ []))
    ∷ case "30,\"\",0,1" (rows (row 30 0 0 (1 ∷ []) ∷ []))
    ∷ case "30,0,0,1" (rows (row 30 0 0 (1 ∷ []) ∷ []))
    ∷ case ",1,0,1" (faulty_row 1)
    ∷ case "\"\",1,0,1" (faulty_row 1)
    ∷ case "30,1,,1" (faulty_row 1)
    ∷ case "30,1,\"\",1" (faulty_row 1)
    ∷ case "30,1,0," (faulty_row 1)
    ∷ case "30,1,0,\"\"" (faulty_row 1)
    -- numbers
    ∷ case "999999,100000,0,123456" (rows (row 999999 100000 0 (123456 ∷ []) ∷ []))
    ∷ case "1000000,1,0,1" (faulty_row 1)
    ∷ case "\"1000000\",1,0,1" (faulty_row 1)
    ∷ case "07,1,0,1" (faulty_row 1)
    ∷ case "00,1,0,1" (faulty_row 1)
    ∷ case "30,00,0,1" (faulty_row 1)
    ∷ case "+1,1,0,1" (faulty_row 1)
    ∷ case "30,1,-1,1" (faulty_row 1)
    ∷ case "0x1,1,0,1" (faulty_row 1)
    -- lists
    ∷ case "30,1,0,\"1,2\"" (rows (row 30 1 0 (1 ∷ 2 ∷ []) ∷ []))
    ∷ case "30,1,0,\"24,1,24,0\"\r\n" (rows (row 30 1 0 (24 ∷ 1 ∷ 24 ∷ 0 ∷ []) ∷ []))
    ∷ case "30,1,0,\"1,\"" (faulty_row 1)
    ∷ case "30,1,0,\",1\"" (faulty_row 1)
    ∷ case "30,1,0,\"1,,2\"" (faulty_row 1)
    ∷ case "30,1,0,\"1,02\"" (faulty_row 1)
    ∷ case "30,1,0,\"1,1000000\"" (faulty_row 1)
    ∷ case "30,1,0,\"1,2" (faulty_row 1)
    -- the number of fields
    ∷ case "30,1,0,1,2" (faulty_row 1)
    ∷ case "30,1,0,1," (faulty_row 1)
    ∷ case "30,1,0,\"1,2\",3" (faulty_row 1)
    ∷ case "30,1,0" (faulty_row 1)
    ∷ case "30" (faulty_row 1)
    -- what other refusals judge is well-formed: a mark above 1, a length out of range, an instrument 0
    ∷ case "30,1,2,1" (rows (row 30 1 2 (1 ∷ []) ∷ []))
    ∷ case "30,1,999999,1" (rows (row 30 1 999999 (1 ∷ []) ∷ []))
    -- a header is a row like any other
    ∷ case "length,place,mark,list\r\n30,1,0,1" (faulty_row 1)
    -- a list may have any number of members
    ∷ case "30,1,0,\"1,1,1,1,1,1,1,1,1,1,1,1,1,1,1,1,1,1,1,1,1,1,1,1,1,1,1,1,1,1\"" (rows (row 30 1 0 (replicate 30 1) ∷ []))
    ∷ case "30,1,0,0" (rows (row 30 1 0 (0 ∷ []) ∷ []))
    ∷ case "5000,1,0,1\r\n30,1,0,1\r\n30,1,0" (faulty_row 3)
    -- of a row without four well-formed fields and a later row that breaks the form, the first; and the other way round
    ∷ case "30,1,0,1\r\n30,1\r\n30,1,\"0" (faulty_row 2)
    ∷ case "30,1,0,1\r\n30\n\r\n30,1" (faulty_row 2)
    ∷ []

unfoldable pub asked : (List ℕ → Worklist) → List Case → List Worklist
asked reader t = map (λ (c : Case). reader c.file) t

unfoldable pub said : List Case → List Worklist
said t = map (λ (c : Case). c.says) t

-- ---- taking a worklist

-- m and the calibrations, a file, and what is due: the sheet's file, or a refusal with its row
pub record TakeCase : Type 0 where
  pub m : ℕ
  pub calibrations : List ℕ
  pub file : List ℕ
  pub due : Due

abbrev pub takes : ℕ → List ℕ → String → List String → TakeCase
takes m l t s = record { m = m; calibrations = l; file = bytes t; due = text (lines s) }

abbrev pub refuses : ℕ → List ℕ → String → ℕ → ℕ → TakeCase
refuses m l t e j = record { m = m; calibrations = l; file = bytes t; due = refusal e j }

-- on two instruments without calibrations
abbrev pub at_row : String → ℕ → ℕ → TakeCase
at_row t e j = refuses 2 (0 ∷ 0 ∷ []) t e j

-- a text n times over
unfoldable pub again : ℕ → List ℕ → List ℕ
again zero t = []
again (suc n) t = t ++ again n t

-- so many rows, and then a text
abbrev pub many : ℕ → String → String → ℕ → ℕ → TakeCase
many n t u e j = record { m = 1; calibrations = 0 ∷ []; file = again n (bytes t) ++ bytes u; due = refusal e j }

unfoldable pub take_table : List TakeCase
take_table =
    -- what is taken
    takes 2 (0 ∷ 0 ∷ []) "30,1,0,\"1,2\"\r\n20,1,0,1\r\n10,1,0,\"1,2\"\r\n"
    ("     2     3"
    ∷ "     0     0"
    ∷ "    30     1     0     2     1     2"
    ∷ "    20     1     0     1     1"
    ∷ "    10     1     0     2     1     2"
    ∷ [])
    ∷ takes 2 (240 ∷ 7 ∷ []) "30,2,1,\"1,2\"\r\n\"1440\",,0,\"1,2\"\r\n1,0,\"0\",\"1\""
    ("     2     3"
    ∷ "   240     7"
    ∷ "    30     2     1     2     1     2"
    ∷ "  1440     1     0     2     1     2"
    ∷ "     1     1     0     1     1"
    ∷ [])
    -- what the host gives comes first: m, then the calibrations, one for each
    ∷ refuses 0 (241 ∷ []) "" 2 0
    ∷ refuses 25 (again 25 (0 ∷ [])) "30,1,0,1" 2 0
    ∷ refuses 2 (241 ∷ 0 ∷ []) "" 10 0
    ∷ refuses 2 (0 ∷ []) "30,1,0,1" 10 0
    ∷ refuses 2 (0 ∷ 0 ∷ 0 ∷ []) "30,1,0,1" 10 0
    -- then the form of the whole file, then the number of its rows
    ∷ at_row "" 12 1
    ∷ at_row "5000,1,0,1\r\n30,1,0,1\r\n30,1,0\r\n" 12 3
    ∷ at_row "5000,1,0,1\n" 12 1
    ∷ at_row "30,1,0,1\n30,1,0,1\n" 12 1
    ∷ many 201 "30,1,0,1\r\n" "" 2 0
    ∷ many 201 "0,1,0,1\r\n" "" 2 0
    ∷ many 201 "30,1,0,1\r\n" "30,1" 12 202
    ∷ record { m = 2; calibrations = 0 ∷ 0 ∷ []; file = again 201 (bytes "30,1,0,\"2,1\"\r\n"); due = refusal 2 0 }
    -- then row by row, each in the order of a sheet's line: length, mark, list, its order, place
    ∷ many 199 "30,1,0,1\r\n" "30,2,0,1" 5 200
    ∷ at_row "0,9,2,3" 3 1
    ∷ at_row "1441,1,0,1" 3 1
    ∷ at_row "30,9,2,3" 1 1
    ∷ at_row "30,9,10,3" 1 1
    ∷ at_row "30,9,0,3" 4 1
    ∷ at_row "30,1,0,0" 4 1
    ∷ at_row "30,1,0,\"1,1\"" 4 1
    ∷ at_row "30,1,0,\"1,2,1\"" 4 1
    ∷ at_row "30,1,0,\"1,2,3,4,5,6,7,8,9,10,11,12,13,14,15,16,17,18,19,20,21,22,23,24,25\"" 4 1
    ∷ at_row "0,1,0,\"2,1\"" 3 1
    ∷ at_row "30,1,2,\"2,1\"" 1 1
    ∷ refuses 3 (0 ∷ 0 ∷ 0 ∷ []) "30,1,0,\"2,1,2\"" 4 1
    ∷ refuses 3 (0 ∷ 0 ∷ 0 ∷ []) "30,1,0,\"2,1,1\"" 4 1
    ∷ refuses 3 (0 ∷ 0 ∷ 0 ∷ []) "30,1,0,\"2,1,4\"" 4 1
    ∷ refuses 3 (0 ∷ 0 ∷ 0 ∷ []) "30,1,0,\"1,3,2\"" 13 1
    ∷ at_row "30,1,0,1\r\n30,9,0,\"2,1\"\r\n0,1,0,1" 13 2
    ∷ at_row "30,,1,\"2,1\"" 13 1
    ∷ at_row "30,1,0,\"2,1\"\r\n30,1" 12 2
    ∷ at_row "30,2,0,1" 5 1
    ∷ at_row "30,,1,\"1,2\"" 5 1
    ∷ at_row "30,1,0,1\r\n30,2,0,1\r\n0,1,0,1\r\n" 5 2
    ∷ []

unfoldable pub taking : List TakeCase → List Due
taking t = map (λ (c : TakeCase). taken_due (taken c.m c.calibrations c.file)) t

unfoldable pub due : List TakeCase → List Due
due t = map (λ (c : TakeCase). c.due) t

-- a buffer that is long enough gets the sheet; a shorter one, or a refusal, nothing
unfoldable pub hosted : List Hosted
hosted =
    take_host 1 (0 ∷ []) (bytes "30,,0,1") (again 51 (120 ∷ []))
    ∷ take_host 1 (0 ∷ []) (bytes "30,,0,1") (again 52 (120 ∷ []))
    ∷ take_host 1 (0 ∷ []) (bytes "30,,0,1") (again 50 (120 ∷ []))
    ∷ take_host 1 (0 ∷ []) (bytes "30,,0") (again 2 (120 ∷ []))
    ∷ []

unfoldable pub hosted-said : List Hosted
hosted-said =
    record {
      refusal = 0;
      line = 0;
      length = 51;
      buffer = lines ("     1     1" ∷ "     0" ∷ "    30     1     0     1     1" ∷ []);
    }
    ∷ record {
      refusal = 0;
      line = 0;
      length = 51;
      buffer = lines ("     1     1" ∷ "     0" ∷ "    30     1     0     1     1" ∷ []) ++ (120 ∷ []);
    }
    ∷ record { refusal = 9; line = 0; length = 0; buffer = again 50 (120 ∷ []) }
    ∷ record { refusal = 12; line = 1; length = 0; buffer = again 2 (120 ∷ []) }
    ∷ []
