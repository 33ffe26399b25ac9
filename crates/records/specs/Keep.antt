-- Recording: templates out, what a first pass adds to it, and one template. Assumes nothing: these are definitions.
use Rattle.std.specs.Prelude.{ℕ, ◌+◌, ◌-◌, ◌≤◌, ◌<◌, ◌^◌, Bool, false, ◌||◌, ◌&&◌, List, [], ◌++◌, leb, ltb, length, take, drop}
use Rattle.field.specs.Bytes.{Bytes, pick}
use Rattle.field.specs.Number.{big_endian}
use Rattle.field.specs.Row.{end, bytes, long_body}
use Rattle.field.specs.Put.{put, head}
use Rattle.spec.specs.Pass.{Template, Done, Pass, Mid, Part, marks}
use Rattle.spec.specs.Merge.{Child, merge, long_run, short_runs}
use Rattle.spec.specs.Children.{children_to_string}
use Rattle.spec.specs.Output.{strings_after, template_row}
use Rattle.spec.specs.Transform.{templates_row}
use Rattle.strings.specs.Due.{graver, long_due, grave}
use Rattle.strings.specs.Carve as C
use Rattle.strings.specs.declared.writer.Open.{Open}
use Rattle.strings.specs.Recorded.{recorded_one, recorded}
use Rattle.records.specs.declared.Records.{Records}
use Rattle.records.specs.Kinds.{kinds_at}

pub record Kept : Type 0 where
  pub out : Bytes
  pub st : Records

abbrev pub at : Bytes → Records → Kept
at o s = record { out = o; st = s }

-- what a pass has taken, recorded and raised
abbrev pub add : Done Mid → Kept → Kept
add d w =
    record {
      out = recorded d.templates w.out w.st.place;
      st = record { next = w.st.next + d.taken; place = w.st.place + length (bytes (templates_row d.templates)); due = graver w.st.due (graver (grave d.flags) (long_due (long_body (templates_row d.templates)))) };
    }

-- a first pass from the next number on
unfoldable pub keep : Pass Mid → Kept → Kept
keep p w = add (p w.st.next) w

pub record Low (w : Kept) : Type 0 where
  pub low_next : w.st.next < 2 ^ 63
  pub low_place : w.st.place + 3 < 2 ^ 63

-- what a walk over s asks that ends at w: scratch holds any run that is not too long, and no place or number passes what a word holds
pub record Room (scratch s : Bytes) (w : Kept) : Type 0 where
  pub desk : 65536 ≤ length scratch
  pub short : length s < 2 ^ 32
  pub low : Low w

-- ---- one template

-- a number is taken
abbrev pub bumped : Records → Records
bumped s = record { next = s.next + 1; place = s.place; due = s.due }

-- the template of these parts; what its dynamic expressions are stands in no byte
abbrev pub template_of : ℕ → List Part → Template
template_of n ps = record { number = n; strings = strings_after [] ps; kinds = [] }

-- it is recorded; `run` says whether a run that was merged into it was too long
unfoldable pub write : ℕ → Bool → List Part → Kept → Kept
write n run ps w =
    record {
      out = recorded_one (template_of n ps) w.out w.st.place;
      st = record { next = w.st.next; place = w.st.place + length (bytes (template_row (template_of n ps) end)); due = graver w.st.due (graver (grave (marks ps)) (long_due (run || long_body (template_row (template_of n ps) end)))) };
    }

-- that of children that are merged: a run that is too long is left out of it and shows in what is due
abbrev pub write_runs : ℕ → List Child → Kept → Kept
write_runs n cs = write n (long_run (merge false false [] cs)) (children_to_string false (short_runs (merge false false [] cs)))

-- its beginning: an open string behind the room for its head, its number and the count of its gaps
abbrev pub begun : Records → Open
begun s = record { head = s.place + 9; len = 0; gaps = 0; due = s.due }

abbrev pub begin : Kept → C.Carved
begin w = C.at w.out (begun w.st)

-- at a place, with g gaps and its last string ended at last: how long its body is
abbrev pub size_at : ℕ → ℕ → ℕ → ℕ
size_at place last g = last + g - (place + 3)

-- the strings moved up by a byte for each gap
abbrev pub moved_up : ℕ → ℕ → ℕ → Bytes → Bytes
moved_up place last g o = put o (place + 9 + g) (take (last - (place + 9)) (drop (place + 9) o))

-- and the kinds before them, found in them
abbrev pub kinded : ℕ → ℕ → ℕ → Bytes → Bytes
kinded place last g o = put (moved_up place last g o) (place + 9) (kinds_at g 0 (drop (place + 9 + g) (moved_up place last g o)))

-- where all of it stands
abbrev pub kinded_if : ℕ → ℕ → ℕ → Bytes → Bytes
kinded_if place last g o = pick (leb (size_at place last g) 65535 && leb (last + g) (length o)) (kinded place last g o) o

-- its end, with g gaps, and c what is left when its last string is closed: the kinds, and what comes before them
abbrev pub end_at : ℕ → Records → ℕ → C.Carved → Kept
end_at n s g c =
    record {
      out = put (kinded_if s.place c.st.head g c.out) s.place (head 0x84 (size_at s.place c.st.head g) ++ big_endian 4 n (big_endian 2 g []));
      st = record { next = s.next; place = c.st.head + g; due = graver c.st.due (long_due (ltb 65535 (size_at s.place c.st.head g))) };
    }
