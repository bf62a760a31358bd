-- A line at the front.
use Rattle.std.proofs.Common.{ℕ, List, [], ◌∷◌, refl}
use Rattle.rules.specs.Render.{line}
use Rattle.text.proofs.Pasted.{wrote_one, wrote-start}
use Rattle.text.proofs.Numbers.{put_line_same}
use Rattle.theory.proofs.Fields.{line-length}
use Rattle.text.proofs.put_pair.Goals as goal

pub returns : goal.returns
returns c =
    let l : List ℕ = c.args.a ∷ c.args.b ∷ [] in
    wrote-start (wrote_one c.args.out.now 0 (line l) 13 (line-length l) c.requires.0 (put_line_same c.put_line.ensures)) refl
