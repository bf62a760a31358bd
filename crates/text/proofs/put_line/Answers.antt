-- An end behind the fields.
use Rattle.text.proofs.Numbers.{line_ended}
use Rattle.text.proofs.put_line.Goals as goal

pub returns : goal.returns
returns g c = line_ended c.put_fields.ensures c.requires.room c.put_end.ensures
