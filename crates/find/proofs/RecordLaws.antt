-- The record at the front of templates that are checked, and one step of the walk over it. Main statements: `length_read`, `record_in`,
-- `none_waits`, `not_asked`, `met_before`, `first_met`, `walk_begins`, `walk_ends`, `walk_ends_there`. Assumes nothing.
use mathlib.Core.Path.{◌≡◌, refl, sym, ap, ◌∙◌, subst}
use mathlib.Core.Bool.{Bool, true, false, ◌&&◌}
use Prim.Native.Nat.{ℕ, suc, ◌+◌, ◌-◌, ◌≤◌, ◌<◌}
use native.Mathlib.Omega.{arith}
use mathlib.Core.List.{List, [], ◌∷◌}
use lib.Dec.{eqb, leb, ltb, leb→le}
use lib.ListN.{length, take, drop, get_or, set, replicate, length-append, length-take, length-set, length-replicate, take-append-drop}
use lib.Seq.{take-take}
use borrow.Author.Tests.{eq-eqb, ne_eqb, lt-ltb, le-ltb}
use Rattle.field.specs.Bytes.{Bytes, pick}
use Rattle.field.specs.Number.{number_from, number_of}
use Rattle.field.specs.Row.{Row, end, loose, field, bytes, Inside, only_bytes, fields_after, counted, counted_front, inside, read, Ended}
use Rattle.field.specs.Fields.{IsFront, IsEnd}
use Rattle.std.specs.Int.{w32, from_be_bytes}
use Rattle.field.proofs.RowLaws.{read_ind, next_nothing, next_sizes, length_bytes}
use Rattle.refusal.specs.Refusal.{Verdict, Fine, after, unless}
use Rattle.refusal.specs.declared.Refusal.TheVariants as R
use Rattle.page.proofs.Steps.{front, inner, row_at}
use Rattle.refusal.proofs.Verdicts.{after_fine, unless_fine}
use Rattle.page.proofs.Booleans.{and_both}
use Rattle.page.proofs.TightRows.{part_size, length_read}
use Rattle.outs.specs.Templates.{check_templates, check_records, check_strings_of, front_of_record, all_kinds, count_of}
use Rattle.outs.specs.declared.Kind.TheVariants.{New}
pub use Rattle.outs.proofs.Parts.{four_first as number_four}
use Rattle.find.specs.Find.{Met, index_of, wanted, step, walk, none_met, absent}
use Rattle.find.specs.Answer.{Walked}

-- ---- a record that is fine

module _ (t : ℕ) (f : Bytes) (i r : Row) (e : check_records New (field t f i r) ≡ Fine) where
  abbrev strings : Unit {0} → Verdict
  strings x = after (check_strings_of New f i) λ _. check_records New r

  abbrev front_then : Unit {0} → Verdict
  front_then x = after (unless (front_of_record New f) R.Misplaced) strings

  behind_tag : (unless (front_of_record New f) R.Misplaced ≡ Fine) × (strings tt ≡ Fine)
  unfolding check_records
  behind_tag = after_fine (unless (front_of_record New f) R.Misplaced) strings (after_fine (unless (eqb t 0x84) R.Misplaced) front_then e).1

  fine_front : 6 ≤ length f
  unfolding front_of_record
  fine_front = leb→le 6 (length f) (and_both (leb 6 (length f)) (eqb (length f) (6 + count_of f) && all_kinds (drop 6 f)) (unless_fine (front_of_record New f) R.Misplaced behind_tag.0)).0

  fine_rest : check_records New r ≡ Fine
  fine_rest = (after_fine (check_strings_of New f i) (λ _. check_records New r) behind_tag.1).1

-- ---- the record in front

-- of body b, and r lies behind it
pub record Record (s b r : Bytes) : Type 0 where
  pub tag : ℕ
  pub before : Bytes
  pub within : Row
  pub read_is : read s ≡ field tag before within (read r)
  pub number_is : number_of (take 4 before) ≡ number_of (take 4 b)
  pub size_is : length before + length (bytes within) ≡ length b
  pub has_number : 6 ≤ length b
  pub rest_fine : check_records New (read r) ≡ Fine

-- a body whose front is its first n bytes
front_part : (n : ℕ) (w : Bytes) → 6 ≤ length (take n w) → take 4 (take n w) ≡ take 4 w
front_part n w h = take-take 4 n w (omega (arith, length-take n w))

module _ {s : Bytes} {t : ℕ} {b r : Bytes} (f : IsFront s t b r) (fine : check_records New (read s) ≡ Fine) where
  made : (g : Bytes) (i : Row) → read s ≡ field t g i (read r) → (6 ≤ length g → take 4 g ≡ take 4 b) → length g + length (bytes i) ≡ length b → Record s b r
  made g i q n l =
      let c : check_records New (field t g i (read r)) ≡ Fine = subst (λ (x : Row). check_records New x ≡ Fine) q fine in
      let k : 6 ≤ length g = fine_front t g i (read r) c in
      record {
        tag = t;
        before = g;
        within = i;
        read_is = q;
        number_is = ap number_of (n k);
        size_is = l;
        has_number = omega arith;
        rest_fine = fine_rest t g i (read r) c;
      }

  pub record_in : Record s b r
  unfolding bytes
  record_in = on (inside t) (row_at f)
    where
      on : (c : Inside) → read s ≡ field t (front c b) (inner c b) (read r) → Record s b r
      on only_bytes q = made b end q (λ l. refl) (omega arith)
      on (fields_after n) q = made (take n b) (read (drop n b)) q (λ l. front_part n b l) (omega (arith, part_size n b, length_read (drop n b)))
      on (counted n) q = made (take (counted_front n b) b) (read (drop (counted_front n b) b)) q (λ l. front_part (counted_front n b) b l) (omega (arith, part_size (counted_front n b) b, length_read (drop (counted_front n b) b)))

-- ---- the walk

abbrev pub met : List ℕ → ℕ → ℕ → Met
met ps w r = record { places = ps; waiting = w; records = r }

pub none_waits : (ns : List ℕ) (p : ℕ) (x : Row) (m : Met) → m.waiting ≡ 0 → walk ns p x m ≡ m
unfolding walk
none_waits ns p end m w = refl
none_waits ns p (loose b) m w = refl
none_waits ns p (field t f i r) m w = rw (eq-eqb m.waiting 0 w)

ended : (ns : List ℕ) (p : ℕ) (x : Row) (m : Met) → Ended x → walk ns p x m ≡ m
unfolding walk
ended ns p end m i = refl
ended ns p (loose b) m i = refl
ended ns p (field t f k r) m i = absurd i

walk_field : (ns : List ℕ) (p t : ℕ) (f : Bytes) (i r : Row) (m : Met) → (m.waiting ≡ 0 → ⊥) →
    walk ns p (field t f i r) m ≡ walk ns (p + (3 + length f + length (bytes i))) r (step ns (number_of (take 4 f)) p m)
unfolding walk
walk_field ns p t f i r m w = ap (λ (b : Bool). pick b m (walk ns (p + (3 + length f + length (bytes i))) r (step ns (number_of (take 4 f)) p m))) (ne_eqb m.waiting 0 w)

module _ (ns : List ℕ) {s b r : Bytes} (d : Record s b r) (p : ℕ) (ps : List ℕ) (w c : ℕ) (some : w ≡ 0 → ⊥) {n i : ℕ} (q : n ≡ number_of (take 4 b)) (j : i ≡ index_of n ns) where
  one_step : walk ns p (read s) (met ps w c) ≡ walk ns (p + (3 + length b)) (read r) (step ns n p (met ps w c))
  one_step =
      let e : 3 + length d.before + length (bytes d.within) ≡ 3 + length b = omega (arith, d.size_is) in
      ap (λ (x : Row). walk ns p x (met ps w c)) d.read_is
      ∙ walk_field ns p d.tag d.before d.within (read r) (met ps w c) some
      ∙ ap (λ (k : ℕ). walk ns (p + k) (read r) (step ns (number_of (take 4 d.before)) p (met ps w c))) e
      ∙ ap (λ (k : ℕ). walk ns (p + (3 + length b)) (read r) (step ns k p (met ps w c))) (d.number_is ∙ sym q)

  passed : wanted ns n (met ps w c) ≡ false → walk ns p (read s) (met ps w c) ≡ walk ns (p + (3 + length b)) (read r) (met ps w (c + 1))
  passed z =
      let k : suc c ≡ c + 1 = omega arith in
      one_step
      ∙ ap (λ (x : Bool). walk ns (p + (3 + length b)) (read r) (pick x (met (set ps (index_of n ns) p) (w - 1) (suc c)) (met ps w (suc c)))) z
      ∙ ap (λ (x : ℕ). walk ns (p + (3 + length b)) (read r) (met ps w x)) k

  abbrev is_absent : ℕ → Bool
  is_absent k = eqb (get_or ps k 0) absent

  pub not_asked : length ns ≤ i → walk ns p (read s) (met ps w c) ≡ walk ns (p + (3 + length b)) (read r) (met ps w (c + 1))
  not_asked l = passed (ap (λ (b : Bool). b && is_absent (index_of n ns)) (ap (λ (x : ℕ). ltb x (length ns)) (sym j) ∙ le-ltb i (length ns) l))

  pub met_before : i < length ns → (get_or ps i 0 ≡ absent → ⊥) → walk ns p (read s) (met ps w c) ≡ walk ns (p + (3 + length b)) (read r) (met ps w (c + 1))
  met_before l z =
      let a : ltb (index_of n ns) (length ns) ≡ true = ap (λ (x : ℕ). ltb x (length ns)) (sym j) ∙ lt-ltb i (length ns) l in
      let o : is_absent (index_of n ns) ≡ false = ap is_absent (sym j) ∙ ne_eqb (get_or ps i 0) absent z in
      passed (ap (λ (x : Bool). x && is_absent (index_of n ns)) a ∙ o)

  pub first_met : i < length ns → get_or ps i 0 ≡ absent → walk ns p (read s) (met ps w c) ≡ walk ns (p + (3 + length b)) (read r) (met (set ps i p) (w - 1) (c + 1))
  first_met l z =
      let k : suc c ≡ c + 1 = omega arith in
      let a : ltb (index_of n ns) (length ns) ≡ true = ap (λ (x : ℕ). ltb x (length ns)) (sym j) ∙ lt-ltb i (length ns) l in
      let o : is_absent (index_of n ns) ≡ true = ap is_absent (sym j) ∙ eq-eqb (get_or ps i 0) absent z in
      one_step
      ∙ ap (λ (x : Bool). walk ns (p + (3 + length b)) (read r) (pick x (met (set ps (index_of n ns) p) (w - 1) (suc c)) (met ps w (suc c)))) (ap (λ (x : Bool). x && is_absent (index_of n ns)) a ∙ o)
      ∙ ap (λ (x : ℕ). walk ns (p + (3 + length b)) (read r) (met (set ps x p) (w - 1) (suc c))) (sym j)
      ∙ ap (λ (x : ℕ). walk ns (p + (3 + length b)) (read r) (met (set ps i p) (w - 1) x)) k

-- ---- what holds at each turn of the walk

-- s is what is left of ts
pub record Walking (ts : Bytes) (ns ps : List ℕ) (w c : ℕ) (s : Bytes) : Type 0 where
  pub fine : check_records New (read s) ≡ Fine
  pub size : length s ≤ length ts
  pub counted : c ≤ length ts - length s
  pub room : length ps ≡ 256
  pub same : walk ns 0 (read ts) (none_met ns) ≡ walk ns (length ts - length s) (read s) (met ps w c)

pub walk_begins : (ts : Bytes) (ns : List ℕ) → check_templates New ts ≡ Fine → Walking ts ns (replicate 256 absent) (length ns) 0 ts
unfolding check_templates
walk_begins ts ns e =
    let z : 0 ≡ length ts - length ts = omega arith in
    record { fine = e; size = omega arith; counted = omega arith; room = length-replicate 256 absent; same = ap (λ (k : ℕ). walk ns k (read ts) (none_met ns)) z }

module _ {ts : Bytes} {ns ps : List ℕ} {w c : ℕ} {s : Bytes} (a : Walking ts ns ps w c s) where
  abbrev at : ℕ
  at = length ts - length s

  answered : walk ns at (read s) (met ps w c) ≡ met ps w c → Walked ts ns 0 c ps
  answered e =
      let f : met ps w c ≡ walk ns 0 (read ts) (none_met ns) = sym (a.same ∙ e) in
      record { number_is = refl; records_is = ap (λ (m : Met). m.records) f; places_is = ap (λ (m : Met). m.places) f }

  pub walk_ends : w ≡ 0 → Walked ts ns 0 c ps
  walk_ends e = answered (none_waits ns at (read s) (met ps w c) e)

  pub walk_ends_there : {r : Bytes} → IsEnd s r → Walked ts ns 0 c ps
  walk_ends_there e = answered (ended ns at (read s) (met ps w c) e.ended)

  module _ {t : ℕ} {b r : Bytes} (f : IsFront s t b r) where
    the_record : Record s b r
    the_record = record_in f a.fine

    pub has_four : 4 ≤ length b
    has_four = omega (arith, the_record.has_number)

    pub one_more : c + 1 ≤ length ts
    one_more = omega (arith, f.sizes, a.size, a.counted)

    goes_on : (ps' : List ℕ) (w' : ℕ) → length ps' ≡ length ps → walk ns at (read s) (met ps w c) ≡ walk ns (at + (3 + length b)) (read r) (met ps' w' (c + 1)) → Walking ts ns ps' w' (c + 1) r
    goes_on ps' w' l z =
        let e : length ts - length s + (3 + length b) ≡ length ts - length r = omega (arith, f.sizes, a.size) in
        record {
          fine = the_record.rest_fine;
          size = omega (arith, f.sizes, a.size);
          counted = omega (arith, f.sizes, a.size, a.counted);
          room = l ∙ a.room;
          same = a.same ∙ z ∙ ap (λ (k : ℕ). walk ns k (read r) (met ps' w' (c + 1))) e;
        }

    module _ {n i : ℕ} (some : w ≡ 0 → ⊥) (k : n ≡ number_of (take 4 b)) (j : i ≡ index_of n ns) where
      pub turn_not_asked : length ns ≤ i → Walking ts ns ps w (c + 1) r
      turn_not_asked l = goes_on ps w refl (not_asked ns the_record at ps w c some k j l)

      pub turn_met_before : i < length ns → (get_or ps i 0 ≡ absent → ⊥) → Walking ts ns ps w (c + 1) r
      turn_met_before l z = goes_on ps w refl (met_before ns the_record at ps w c some k j l z)

      pub turn_first_met : i < length ns → get_or ps i 0 ≡ absent → Walking ts ns (set ps i at) (w - 1) (c + 1) r
      turn_first_met l z = goes_on (set ps i at) (w - 1) (length-set ps i at) (first_met ns the_record at ps w c some k j l z)
