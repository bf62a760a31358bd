use mathlib.Core.Path.{sym, ap}
use native.Mathlib.Omega.{arith}
use borrow.Author.Tests.{le-leb, lt-leb}
use lib.ListN.{length}
use Rattle.journal.specs.Running.{text_of}
use Rattle.journal.proofs.Going.{going_start, start-written, made, going_on, turn-room, turn-written, going_end}
use Rattle.journal.proofs.run.fits.Goals as goal

pub loop-turn-init : goal.loop-turn-init
loop-turn-init c =
    let a = c.args in
    let p = c.requires in
    (going_start a.sheet p.0 a.journal.now p.1, omega (arith, ap length (start-written a.sheet p.0 a.journal.now p.1)))

pub line_length-length-requires : goal.line_length-length-requires
line_length-length-requires c = (made c.loop-turn.invariant.0 c.in-Some.ensures).few

pub returns-then-left-length : goal.returns-then-left-length
returns-then-left-length c =
    let l = c.loop-turn in
    sym (lt-leb (length (text_of _ _)) c.args.room
    (omega (arith, turn-room l.invariant.0 c.in-Some.ensures, l.invariant.1, c.line_length-length.ensures, c.if-left-length.true)))

pub loop-turn-preserved : goal.loop-turn-preserved
loop-turn-preserved c =
    let l = c.loop-turn in
    let u = c.in-Some.ensures in
    (going_on l.invariant.0 u, omega (arith, turn-written l.invariant.0 u, l.invariant.1, c.line_length-length.ensures, c.if-left-length.false))

pub returns : goal.returns
returns c =
    let l = c.loop-turn in
    let e = c.in_default.ensures in
    sym (le-leb (length (text_of _ _)) c.args.room (omega (arith, ap length (going_end l.invariant.0 e.1 e.2), l.invariant.1)))
