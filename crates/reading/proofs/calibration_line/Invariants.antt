-- The invariant: i of the calibrations are read.
use Rattle.reading.proofs.CalibrationsRead.{CalibrationsSofar}
use Rattle.reading.proofs.calibration_line.Given as goal

abbrev pub invariant-loop-i : goal.invariant-loop-i
invariant-loop-i l = CalibrationsSofar l.s l.at l.m l.calibrations l.next l.i
