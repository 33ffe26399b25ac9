-- 02, A8: what is filled is well nested. Main statements: `sound_nested` of sound templates, `filled_nested` of demand 3, `outcome_nested` of the
-- whole answer. Assumes nothing.
use Prim.Native.Nat.{ℕ}
use mathlib.Core.Path.{◌≡◌, refl, sym, ap, ◌∙◌, subst}
use mathlib.Core.Bool.{Bool, true, false}
use mathlib.Core.List.{List, [], ◌∷◌, ◌++◌, append-nil}
use mathlib.Core.Option.{Option, none, some}
use lib.Dec.{T, eqb, leb}
use lib.ListN.{length, take}
use Rattle.field.specs.Bytes.{Bytes, pick}
use Rattle.field.specs.Number.{number_of}
use Rattle.field.specs.Row.{Row, end, loose, field, read}
use Rattle.text.specs.Escape.{escape_html}
use Rattle.page.specs.Tree.{choose}
use Rattle.refusal.specs.Refusal.{Verdict, Fine, Refused, unless}
use Rattle.refusal.specs.declared.Refusal.TheVariants as R
use Rattle.outs.specs.Templates.{check_templates}
use Rattle.outs.specs.declared.Kind.TheVariants.{New}
use Rattle.spec.specs.Output.{kind_byte, kind_bytes}
use Rattle.spec.specs.Demand.{strings_in, kinds_behind, AllTags, Each84, SoundTemplate, Demand3, Demand3Bytes}
use Rattle.spec.specs.Words.{Comparison, in_small_letters, by_bytes, WellNestedBy, WellNested, free, places, filled, Fits, AllFit}
use Rattle.spec.proofs.Free.{free_nested, escape_free}
use Rattle.fill.specs.Order.{read_order, check_order}
use Rattle.fill.specs.Html.{Template, recorded, first_with, template_of, text_filling, in_turn, last_string, fill_gaps, html_of}
use Rattle.fill.specs.Answer.{Outcome, past, html_written, outcome}
use Rattle.fill.specs.Answer as A

-- ---- a template that is found is sound

-- a kind for each gap, by its place; and every fitting filling is well nested
record Fillable (m : Template) : Type 0 where
  of_place : m.kinds ≡ kind_bytes (places m.strings)
  nested : (how : Comparison) (fs : List Bytes) → AllFit how (places m.strings) fs → WellNestedBy how (filled m.strings fs)

first_fillable : (n : ℕ) (ts : Row) → AllTags 0x84 ts → Each84 SoundTemplate ts → (m : Template) → first_with n ts ≡ some m → Fillable m
unfolding first_with AllTags Each84
first_fillable n end a s m e = absurd (cc)
first_fillable n (loose b) a s m e = absurd (cc)
first_fillable n (field t f i r) a s m e = on (eqb (number_of (take 4 f)) n) (s.0 a.0) (first_fillable n r a.1 s.1 m) e
  where
    first : Template
    first = record { kinds = kinds_behind f; strings = strings_in i }

    on : (b : Bool) → SoundTemplate f i → (first_with n r ≡ some m → Fillable m) → pick b (some first) (first_with n r) ≡ some m → Fillable m
    on true x others e = let q : first ≡ m = cc in subst Fillable q (record { of_place = x.kinds_in_place; nested = x.nested })
    on false x others e = others e

template_fillable : (ts : Row) → AllTags 0x84 ts → Each84 SoundTemplate ts → (n : ℕ) (m : Template) → template_of ts n ≡ some m → Fillable m
unfolding template_of
template_fillable ts a s n m e = on (eqb (recorded n ts) 1) e
  where
    on : (b : Bool) → pick b (first_with n ts) none ≡ some m → Fillable m
    on true e = first_fillable n ts a s m e
    on false e = absurd (cc)

-- ---- a filling fits

text_fits : (how : Comparison) (b : Bool) (t : ℕ) (f x : Bytes) → text_filling (kind_byte b) t f ≡ some x → Fits how b x
unfolding text_filling Fits
text_fits how b t f x e = on b (eqb t 0x86) (free f) refl refl e
  where
    on : (b tagged v : Bool) → eqb t 0x86 ≡ tagged → free f ≡ v → text_filling (kind_byte b) t f ≡ some x → Fits how b x
    on true true true g h e = let q : some f ≡ some x = rw (g, h) at e in let z : f ≡ x = cc in subst (λ (y : Bytes). T (free y)) z (rw h tt)
    on true true false g h e = let q : none ≡ some x = rw (g, h) at e in absurd (cc)
    on true false v g h e = let q : none ≡ some x = rw g at e in absurd (cc)
    on false true v g h e = let q : none ≡ some x = rw g at e in absurd (cc)
    on false false v g h e =
        let q : some (escape_html f) ≡ some x = rw g at e in
        let z : escape_html f ≡ x = cc in
        subst (WellNestedBy how) z (free_nested how (escape_html f) (escape_free f))

-- ---- static strings and fillings in turn

record Turn (s : Bytes) (x y : Option Bytes) (h : Bytes) : Type 0 where
  filling : Bytes
  behind : Bytes
  filling_is : x ≡ some filling
  behind_is : y ≡ some behind
  html_is : h ≡ s ++ (filling ++ behind)

turn : (s : Bytes) (x y : Option Bytes) (h : Bytes) → in_turn s x y ≡ some h → Turn s x y h
unfolding in_turn
turn s none y h e = absurd (cc)
turn s (some x) none h e = absurd (cc)
turn s (some x) (some y) h e = record { filling = x; behind = y; filling_is = refl; behind_is = refl; html_is = cc }

-- strings filled with what fits their gaps
record Filling (how : Comparison) (bs : List Bool) (ss : List Bytes) (h : Bytes) : Type 0 where
  fillings : List Bytes
  fit : AllFit how bs fillings
  html_is : h ≡ filled ss fillings

last_filling : (how : Comparison) (bs : List Bool) (ss : List Bytes) (h : Bytes) → last_string (kind_bytes bs) ss ≡ some h → Filling how bs ss h
unfolding last_string kind_bytes AllFit filled
last_filling how [] [] h e = absurd (cc)
last_filling how [] (s ∷ []) h e = record { fillings = []; fit = tt; html_is = let q : h ≡ s = cc in q ∙ sym (append-nil s) }
last_filling how [] (s ∷ t ∷ ss) h e = absurd (cc)
last_filling how (b ∷ bs) ss h e = absurd (cc)

module _ (how : Comparison) (ts : Row) (tagged : AllTags 0x84 ts) (sound : Each84 SoundTemplate ts) where
  -- fillings for whatever template they are asked for
  abbrev FillsAny : Row → Type 0
  FillsAny i = (bs : List Bool) (ss : List Bytes) (h : Bytes) → fill_gaps ts (kind_bytes bs) ss i ≡ some h → Filling how bs ss h

  -- the HTML of an 85
  abbrev html_asked : ℕ → Row → Option Bytes
  html_asked n i = elim (template_of ts n) [ none ↦ none | some m ↦ fill_gaps ts m.kinds m.strings i ]

  asked_nested : (n : ℕ) (i : Row) → FillsAny i → (h : Bytes) → html_asked n i ≡ some h → WellNestedBy how h
  asked_nested n i fills h e = on (template_of ts n) refl e
    where
      on : (x : Option Template) → template_of ts n ≡ x → (elim x [ none ↦ none | some m ↦ fill_gaps ts m.kinds m.strings i ]) ≡ some h → WellNestedBy how h
      on none q e = absurd (cc)
      on (some m) q e =
          let s = template_fillable ts tagged sound n m q in
          let f = fills (places m.strings) m.strings h (subst (λ (ks : Bytes). fill_gaps ts ks m.strings i ≡ some h) s.of_place e) in
          subst (WellNestedBy how) (sym f.html_is) (s.nested how f.fillings f.fit)

  filling_fits : (b inner : Bool) (t : ℕ) (f : Bytes) (i : Row) → FillsAny i → (x : Bytes) →
      choose inner (λ _. choose (eqb (kind_byte b) 2) (λ _. html_asked (number_of f) i) λ _. none) (λ _. text_filling (kind_byte b) t f) ≡ some x → Fits how b x
  unfolding choose Fits
  filling_fits true true t f i fills x e = absurd (cc)
  filling_fits false true t f i fills x e = asked_nested (number_of f) i fills x e
  filling_fits b false t f i fills x e = text_fits how b t f x e

  gaps_filling : (i : Row) → FillsAny i
  unfolding fill_gaps kind_bytes AllFit filled
  gaps_filling end bs ss h e = last_filling how bs ss h e
  gaps_filling (loose b) bs ss h e = absurd (cc)
  gaps_filling (field t f i r) [] ss h e = absurd (cc)
  gaps_filling (field t f i r) (b ∷ bs) [] h e = absurd (cc)
  gaps_filling (field t f i r) (b ∷ bs) (s ∷ ss) h e =
      let p = turn s _ (fill_gaps ts (kind_bytes bs) ss r) h e in
      let q = gaps_filling r bs ss p.behind p.behind_is in
      record {
        fillings = p.filling ∷ q.fillings;
        fit = (filling_fits b (eqb t 0x85) t f i (gaps_filling i) p.filling p.filling_is, q.fit);
        html_is = p.html_is ∙ ap (λ (y : Bytes). s ++ (p.filling ++ y)) q.html_is;
      }

  pub sound_nested : (o : Row) (h : Bytes) → html_of ts o ≡ some h → WellNestedBy how h
  unfolding html_of
  sound_nested end h e = absurd (cc)
  sound_nested (loose b) h e = absurd (cc)
  sound_nested (field t f i r) h e = asked_nested (number_of f) i (gaps_filling i) h e

-- 02, A8: whoever fills an accepted page's templates gets well-nested HTML
pub filled_nested : {templates page : Row} {count : ℕ} (how : Comparison) → Demand3 templates page count → (o : Row) → {h : Bytes} → html_of templates o ≡ some h → WellNestedBy how h
filled_nested {templates} how d o {h} e = sound_nested how templates d.only_templates d.each_sound o h e

-- ---- the answer

past_filled : (v : Verdict) (f : Unit {0} → Outcome) (h : Bytes) → past v f ≡ A.filled h → f tt ≡ A.filled h
unfolding past
past_filled Fine f h e = e
past_filled (Refused n) f h e = absurd (cc)

html_is_written : (room : ℕ) (x : Option Bytes) (h : Bytes) → html_written room x ≡ A.filled h → x ≡ some h
unfolding html_written
html_is_written room none h e = absurd (cc)
html_is_written room (some g) h e =
    let q : A.filled g ≡ A.filled h = past_filled (unless (leb (length g) room) R.PageTooSmall) (λ _. A.filled g) h e in
    let z : g ≡ h = cc in ap some z

-- what is answered is the HTML of the order
pub outcome_html : (t o : Bytes) (room : ℕ) (h : Bytes) → outcome t o room ≡ A.filled h → html_of (read t) (read_order o) ≡ some h
unfolding outcome
outcome_html t o room h e =
    html_is_written room (html_of (read t) (read_order o)) h
    (past_filled (check_order (read_order o)) (λ _. html_written room (html_of (read t) (read_order o))) h
    (past_filled (check_templates New t) (λ _. past (check_order (read_order o)) λ _. html_written room (html_of (read t) (read_order o))) h e))

-- of bytes and answers alone: nested in small letters, and by bytes as well
pub outcome_nested : (t p : Bytes) (count : ℕ) → Demand3Bytes t p count → (o : Bytes) (room : ℕ) (h : Bytes) → outcome t o room ≡ A.filled h → WellNested h × WellNestedBy by_bytes h
unfolding Demand3Bytes
outcome_nested t p count d o room h e =
    let w = outcome_html t o room h e in (filled_nested in_small_letters d (read_order o) w, filled_nested by_bytes d (read_order o) w)
