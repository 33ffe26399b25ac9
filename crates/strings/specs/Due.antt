-- What a page is refused for behind its walk: Nothing, or a reason, Long for 11, Mixed for 19, Repeated for 16, Left for 10 (document 02, A4
-- and A10). Of two the graver is answered. Assumes nothing: these are definitions.
use Rattle.std.specs.Prelude.{ℕ, Bool, ltb}
use Rattle.field.specs.Bytes.{pick}
use Rattle.spec.specs.declared.Flags.{Flags}
use Rattle.strings.specs.declared.due.Due.{Due}
use Rattle.strings.specs.declared.due.Due.TheVariants.{Nothing, Long, Mixed, Repeated, Left}

-- how grave a reason is
abbrev pub gravity : Due → ℕ
gravity Nothing = 0
gravity Long = 1
gravity Mixed = 2
gravity Repeated = 3
gravity Left = 4

unfoldable pub graver : Due → Due → Due
graver a b = pick (ltb (gravity a) (gravity b)) b a

-- so much, where it is so
abbrev pub due_if : Due → Bool → Due
due_if k b = pick b k Nothing

-- a body, or a run, over 65,535 bytes
abbrev pub long_due : Bool → Due
long_due b = due_if Long b

-- the gravest of a pass's flags
abbrev pub grave : Flags → Due
grave f = graver (due_if Left f.left) (graver (due_if Repeated f.repeated) (graver (due_if Mixed f.mixed) (long_due f.long)))
