-- The field's number, or none.
use Rattle.fields.proofs.Reading.{field-number, field-none}
use Rattle.journal.proofs.entry.number_at.Goals as goal

pub returns-in-Value : goal.returns-in-Value
returns-in-Value c =
    let read = field-number c.args.s.now c.args.at c.field_at.ensures c.in-Value.is in
    (read.number, read.room)

pub returns-in_default : goal.returns-in_default
returns-in_default c = field-none c.args.s.now c.args.at c.field_at.ensures c.in_default.not-Value
