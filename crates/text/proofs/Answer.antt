-- What a call with a lent buffer answers, where a text is due.
use Prim.Native.Nat.{ℕ, ◌≤◌, ◌<◌}
use mathlib.Core.Path.{◌≡◌}
use mathlib.Core.List.{List, ◌++◌}
use lib.ListN.{length, drop}
use borrow.Author.Tests.{le-leb, lt-leb}
use Rattle.rules.specs.Lent.{text, into_buffer}

-- a buffer shorter than the text
pub into-short : (t buffer : List ℕ) → length buffer < length t
    → record { refusal = 9; line = 0; length = 0; buffer = buffer } ≡ into_buffer (text t) buffer
unfolding into_buffer
into-short t buffer h = rw (lt-leb (length t) (length buffer) h)

-- a buffer that is long enough
pub into-long : (t buffer : List ℕ) (c : ℕ) (after : List ℕ) → length t ≤ length buffer → c ≡ length t → after ≡ t ++ drop c buffer
    → record { refusal = 0; line = 0; length = c; buffer = after } ≡ into_buffer (text t) buffer
unfolding into_buffer
into-long t buffer c after h e f = rw (f, e, le-leb (length t) (length buffer) h)
