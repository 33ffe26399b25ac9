-- Demand 3 on the rows of both outputs, from what every pass keeps. Main statement: `row_demand3`. Assumes nothing.
use Prim.Native.Nat.{ℕ, suc, ◌+◌, ◌≤◌}
use mathlib.Core.Path.{◌≡◌, refl, sym, ap, ◌∙◌, subst}
use mathlib.Core.Bool.{Bool, true, false, ◌&&◌, not}
use mathlib.Core.List.{List, [], ◌∷◌, Memᴰ}
use native.Mathlib.Omega.{arith}
use lib.Dec.{T, eqb, eqb→eq, eqb_refl}
use lib.ListN.{length}
use Rattle.field.specs.Bytes.{Bytes}
use Rattle.field.specs.Number.{big_endian}
use Rattle.field.specs.Row.{Row, end, loose, field, long_body}
use Rattle.page.proofs.Booleans.{both_and}
use Rattle.page.specs.Page.{Options, Page}
use Rattle.spec.specs.Pass.{Template, Done}
use Rattle.spec.specs.Output.{kind_bytes, strings_row, template_row, record_row, record_front, layout_84}
use Rattle.spec.specs.Transform.{bit, templates_row, page_out_row, transform}
use Rattle.spec.specs.Words.{Comparison, WellNestedBy, places, filled, AllFit}
use Rattle.spec.specs.Demand.{begins, templates_in, up_to, strings_in, kinds_in, AllTags, Each84, Each90, SoundTemplate, Suits, Demand3}
use Rattle.spec.proofs.Good.{Sound, AllSound}
use Rattle.spec.proofs.Ledger.{Test, recorded, called_row, span}
use Rattle.spec.proofs.Closure.{Visited}
use Rattle.spec.proofs.Called.{counted, numbers, balance}
use Rattle.spec.proofs.Counts.{bit_true, bit_and, bit_no, span_above, span_once, span_up_to, begins_four, AllWithin, all_within, has_number, recorded_row, recorded_numbered, called_begins}
use Rattle.spec.proofs.Records.{kinds_few, rest_short, front_number, front_count, front_kinds}
use Rattle.spec.proofs.PageOut.{page_called, page_stands, page_imported}

-- ---- templates out

templates_tagged : (ts : List Template) → AllTags 0x84 (templates_row ts)
unfolding AllTags templates_row template_row record_row
templates_tagged [] = tt
templates_tagged (t ∷ ts) = (tt, templates_tagged ts)

templates_counted : (ts : List Template) → templates_in (templates_row ts) ≡ length ts
unfolding templates_in templates_row template_row record_row
templates_counted [] = refl
templates_counted (t ∷ ts) = omega (arith, templates_counted ts)

strings_tagged : (ss : List Bytes) → AllTags 0x81 (strings_row ss)
unfolding AllTags strings_row
strings_tagged [] = tt
strings_tagged (s ∷ ss) = (tt, strings_tagged ss)

pub strings_back : (ss : List Bytes) → strings_in (strings_row ss) ≡ ss
unfolding strings_in strings_row
strings_back [] = refl
strings_back (s ∷ ss) = ap (λ (l : List Bytes). s ∷ l) (strings_back ss)

-- the front of a template's record
abbrev front_of : Template → Bytes
front_of t = record_front layout_84 t.number (places t.strings)

abbrev Few : Template → Type 0
Few t = length (places t.strings) ≤ 65535

sound_row : (t : Template) → Sound t → Few t → SoundTemplate (front_of t) (strings_row t.strings)
sound_row t s few =
    let ks = places t.strings in
    record {
      only_strings = strings_tagged t.strings;
      one_more_than_counted = ap length (strings_back t.strings) ∙ s.one_more ∙ ap (λ (x : List Bool). suc (length x)) (sym s.placed) ∙ ap suc (sym (front_count t.number ks few));
      kinds_in_place = front_kinds t.number ks ∙ ap (λ (ss : List Bytes). kind_bytes (places ss)) (sym (strings_back t.strings));
      nested = subst (λ (ss : List Bytes). (how : Comparison) (fs : List Bytes) → AllFit how (places ss) fs → WellNestedBy how (filled ss fs)) (sym (strings_back t.strings)) (λ how fs h. s.nested how fs (subst (λ (ks : List Bool). AllFit how ks fs) s.placed h));
    }

-- a body that is not long counts few gaps
abbrev pub Short : List Template → Type 0
Short ts = T (not (long_body (templates_row ts)))

first_few : (t : Template) (ts : List Template) → Short (t ∷ ts) → Few t
unfolding templates_row template_row
first_few t ts h = kinds_few layout_84 t.number (places t.strings) t.strings (templates_row ts) h tt

others_short : (t : Template) (ts : List Template) → Short (t ∷ ts) → Short ts
unfolding templates_row template_row
others_short t ts h = rest_short layout_84 t.number (places t.strings) t.strings (templates_row ts) h

each_sound : (ts : List Template) → Short ts → AllSound ts → Each84 SoundTemplate (templates_row ts)
unfolding AllSound Each84 templates_row template_row record_row
each_sound [] l h = tt
each_sound (t ∷ ts) l h = (λ e. sound_row t h.0 (first_few t ts l), each_sound ts (others_short t ts l) h.1)

-- ---- the calls of one template

unfoldable same_kinds : List Bool → List Bool → Bool
same_kinds [] [] = true
same_kinds [] (d ∷ ds) = false
same_kinds (c ∷ cs) [] = false
same_kinds (true ∷ cs) (true ∷ ds) = same_kinds cs ds
same_kinds (true ∷ cs) (false ∷ ds) = false
same_kinds (false ∷ cs) (true ∷ ds) = false
same_kinds (false ∷ cs) (false ∷ ds) = same_kinds cs ds

same_kinds_refl : (cs : List Bool) → same_kinds cs cs ≡ true
unfolding same_kinds
same_kinds_refl [] = refl
same_kinds_refl (true ∷ cs) = same_kinds_refl cs
same_kinds_refl (false ∷ cs) = same_kinds_refl cs

-- two rows of kinds that do not differ are the same
same_kinds_eq : (cs ds : List Bool) → (T (not (same_kinds cs ds)) → ⊥) → cs ≡ ds
unfolding same_kinds
same_kinds_eq [] [] h = refl
same_kinds_eq [] (d ∷ ds) h = absurd (h tt)
same_kinds_eq (c ∷ cs) [] h = absurd (h tt)
same_kinds_eq (true ∷ cs) (true ∷ ds) h = ap (λ (l : List Bool). true ∷ l) (same_kinds_eq cs ds h)
same_kinds_eq (true ∷ cs) (false ∷ ds) h = absurd (h tt)
same_kinds_eq (false ∷ cs) (true ∷ ds) h = absurd (h tt)
same_kinds_eq (false ∷ cs) (false ∷ ds) h = ap (λ (l : List Bool). false ∷ l) (same_kinds_eq cs ds h)

-- the number of t, with other kinds than t's
unfoldable mistaken : Template → Test
mistaken t f ks = begins t.number f && not (same_kinds ks t.kinds)

mistaken_one : (t u : Template) → bit (mistaken t (big_endian 4 u.number []) u.kinds) 1 ≤ bit (begins t.number (big_endian 4 u.number [])) 1
unfolding mistaken
mistaken_one t u = bit_and (begins t.number (big_endian 4 u.number [])) (not (same_kinds u.kinds t.kinds))

mistaken_few : (t : Template) (ts : List Template) → recorded (mistaken t) ts ≤ recorded (has_number t.number) ts
unfolding recorded
mistaken_few t [] = omega arith
mistaken_few t (u ∷ ts) = omega (arith, mistaken_few t ts, mistaken_one t u)

own_number : (t u : Template) → t ≡ u → t.number ≤ 65535 → bit (begins t.number (big_endian 4 u.number [])) 1 ≡ 1
own_number t u e h =
    bit_true (begins t.number (big_endian 4 u.number []))
    (subst (λ (x : Template). T (begins t.number (big_endian 4 x.number []))) e (subst T (sym (begins_four t.number t.number h)) (eqb_refl t.number)))

own_kinds : (t u : Template) → t ≡ u → bit (mistaken t (big_endian 4 u.number []) u.kinds) 1 ≡ 0
unfolding mistaken
own_kinds t u e = subst (λ (x : Template). bit (begins t.number (big_endian 4 x.number []) && not (same_kinds x.kinds t.kinds)) 1 ≡ 0) e (on (begins t.number (big_endian 4 t.number [])))
  where
    on : (b : Bool) → bit (b && not (same_kinds t.kinds t.kinds)) 1 ≡ 0
    on true = rw (same_kinds_refl t.kinds)
    on false = refl

recorded_there : (t : Template) (ts : List Template) → t.number ≤ 65535 → Memᴰ t ts → 1 ≤ recorded (has_number t.number) ts
unfolding recorded
recorded_there t [] h m = elim m [ ]
recorded_there t (u ∷ ts) h (Memᴰ.head e) = omega (arith, own_number t u e h)
recorded_there t (u ∷ ts) h (Memᴰ.tail m) = omega (arith, recorded_there t ts h m)

-- where no other template has its number, none is mistaken for it
never_mistaken : (t : Template) (ts : List Template) → t.number ≤ 65535 → Memᴰ t ts → recorded (has_number t.number) ts ≤ 1 → recorded (mistaken t) ts ≡ 0
unfolding recorded
never_mistaken t [] h m k = elim m [ ]
never_mistaken t (u ∷ ts) h (Memᴰ.head e) k = omega (arith, own_number t u e h, own_kinds t u e, mistaken_few t ts)
never_mistaken t (u ∷ ts) h (Memᴰ.tail m) k =
    let a = recorded_there t ts h m in
    let b = never_mistaken t ts h m (omega arith) in
    omega (arith, mistaken_one t u)

-- what is counted nowhere is so of no 90
each_uncounted : (q : Test) (r : Row) → called_row q r ≡ 0 → Each90 (λ f gaps. T (q f (kinds_in gaps)) → ⊥) r
unfolding called_row Each90
each_uncounted q end e = tt
each_uncounted q (loose b) e = tt
each_uncounted q (field t f i r) e =
    let x : ℕ = bit (eqb t 0x90 && q f (kinds_in i)) 1 in
    let y : ℕ = called_row q i in
    let z : ℕ = called_row q r in
    let n : x + (y + z) ≡ 0 = e in
    (λ u v. bit_no (eqb t 0x90 && q f (kinds_in i)) (omega arith) (both_and (eqb t 0x90) (q f (kinds_in i)) u v), (each_uncounted q i (omega arith), each_uncounted q r (omega arith)))

each_weaken : (P Q : Bytes → Row → Type 0) → ((f : Bytes) (gaps : Row) → P f gaps → Q f gaps) → (r : Row) → Each90 P r → Each90 Q r
unfolding Each90
each_weaken P Q h end e = tt
each_weaken P Q h (loose b) e = tt
each_weaken P Q h (field t f i r) e = (λ u. h f i (e.0 u), (each_weaken P Q h i e.1.0, each_weaken P Q h r e.1.1))

suits_row : (t : Template) (gaps : Row) → Sound t → Few t → kinds_in gaps ≡ t.kinds → Suits (front_of t) (strings_row t.strings) gaps
suits_row t gaps s few e =
    let ks = places t.strings in
    record {
      one_string_more = ap length (strings_back t.strings) ∙ s.one_more ∙ ap (λ (ks : List Bool). suc (length ks)) (sym e);
      counted = front_count t.number ks few ∙ ap length (s.placed ∙ sym e);
      in_place = ap places (strings_back t.strings) ∙ s.placed ∙ sym e;
      of_kind = front_kinds t.number ks ∙ ap kind_bytes (s.placed ∙ sym e);
    }

-- a call of t's number has t's kinds
call_suits : (t : Template) → Sound t → Few t → t.number ≤ 65535 → (f : Bytes) (gaps : Row) → (T (mistaken t f (kinds_in gaps)) → ⊥) → (m : ℕ) → T (begins m (front_of t)) → T (begins m f) → Suits (front_of t) (strings_row t.strings) gaps
unfolding mistaken
call_suits t s few h f gaps k m a b =
    let e : t.number ≡ m = eqb→eq t.number m (subst T (front_number t.number (places t.strings) m ∙ begins_four m t.number h) a) in
    let b' : T (begins t.number f) = subst (λ (n : ℕ). T (begins n f)) (sym e) b in
    suits_row t gaps s few (same_kinds_eq (kinds_in gaps) t.kinds (λ d. k (both_and (begins t.number f) (not (same_kinds (kinds_in gaps) t.kinds)) b' d)))

module _ (page : Row) (all : List Template) (balance : (p : Test) → called_row p page ≡ recorded p all) (once : (m : ℕ) → recorded (has_number m) all ≤ 1) (k : ℕ) (few : k ≤ 65535) where
  template_suits : (t : Template) → Sound t → Few t → t.number ≤ k → Memᴰ t all → Each90 (λ called gaps. (m : ℕ) → T (begins m (front_of t)) → T (begins m called) → Suits (front_of t) (strings_row t.strings) gaps) page
  template_suits t s few_gaps h m =
      each_weaken (λ f gaps. T (mistaken t f (kinds_in gaps)) → ⊥) _ (call_suits t s few_gaps (omega arith)) page
      (each_uncounted (mistaken t) page (balance (mistaken t) ∙ never_mistaken t all (omega arith) m (once t.number)))

  each_suits : (ts : List Template) → Short ts → AllSound ts → AllWithin k ts → ((t : Template) → Memᴰ t ts → Memᴰ t all) →
      Each84 (λ front strings. Each90 (λ called gaps. (m : ℕ) → T (begins m front) → T (begins m called) → Suits front strings gaps) page) (templates_row ts)
  unfolding AllSound AllWithin Each84 templates_row template_row record_row
  each_suits [] l s h m = tt
  each_suits (t ∷ ts) l s h m =
      (λ e. template_suits t s.0 (first_few t ts l) h.0 (m t (Memᴰ.head refl)), each_suits ts (others_short t ts l) s.1 h.1 (λ u i. m u (Memᴰ.tail i)))

-- ---- both outputs

module _ (Fragments : Type 0) (o : Options) (p : Page) (w : ℕ) (good : Visited Fragments w (transform o p)) (few : (transform o p).taken ≤ 65535) (none_left : T (not (transform o p).flags.left)) (none_mixed : T (not (transform o p).flags.mixed)) (short : Short (transform o p).templates) where
  within : AllWithin (transform o p).taken (transform o p).templates
  within = all_within (transform o p).taken (transform o p).templates (λ m l. numbers o p m ∙ span_above 1 (transform o p).taken m (omega arith))

  recorded_is : (m : ℕ) → recorded (has_number m) (transform o p).templates ≡ span 1 (transform o p).taken m
  recorded_is m = recorded_numbered m (transform o p).taken (transform o p).templates few within ∙ numbers o p m

  up_to_count : (m : ℕ) → span 1 (transform o p).taken m ≡ up_to m (length (transform o p).templates)
  up_to_count m = span_up_to (transform o p).taken m ∙ ap (up_to m) (sym (counted o p))

  balanced : (q : Test) → called_row q (page_out_row o (transform o p)) ≡ recorded q (transform o p).templates
  balanced q = page_called q o (transform o p) ∙ balance q o p

  pub row_demand3 : Demand3 (templates_row (transform o p).templates) (page_out_row o (transform o p)) (length (transform o p).templates)
  row_demand3 =
      let d : Done Row = transform o p in
      let page : Row = page_out_row o d in
      record {
        only_templates = templates_tagged d.templates;
        count_is = templates_counted d.templates;
        recorded_once = λ m. recorded_row m d.templates ∙ recorded_is m ∙ up_to_count m;
        called_once = λ m. called_begins m page ∙ balanced (has_number m) ∙ recorded_is m ∙ up_to_count m;
        each_sound = each_sound d.templates short (good.kept.sound none_mixed);
        each_suits = each_suits page d.templates balanced (λ m. subst (λ (x : ℕ). x ≤ 1) (sym (recorded_is m)) (span_once 1 d.taken m)) d.taken few d.templates short (good.kept.sound none_mixed) within (λ t i. i);
        no_element_left = page_stands 0x30 refl refl refl o d ∙ good.no_element none_left;
        no_fragment_left = page_stands 0x31 refl refl refl o d ∙ good.no_fragment none_left;
        imported = λ h. page_imported h o p;
      }
