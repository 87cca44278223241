-- Two valid lines with one text are one line. Assumes nothing.
use Rattle.std.specs.Prelude.{◌≡◌}
use Rattle.script.specs.declared.Line.{Line}
use Rattle.script.specs.Text.{text_of, Valid}

abbrev pub ComesBack : Type 0
ComesBack = (l m : Line) → Valid l → Valid m → text_of l ≡ text_of m → l ≡ m
