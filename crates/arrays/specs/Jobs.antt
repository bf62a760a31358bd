-- The instance that jobs in arrays say.
use Rattle.rules.specs.Instance.{Instance}
use Rattle.arrays.specs.Reads.{Reads}
use Rattle.arrays.specs.declared.Jobs.{Jobs}

abbrev pub Says : Instance → Jobs → Type 0
Says I j = Reads I j.m j.n j.minutes.now j.masks.now
