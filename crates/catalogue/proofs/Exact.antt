-- What build makes is read back as exactly these pages, and what is read was built of them. Main statements: `read_back`, `read_exactly`,
-- `one_list`. Assumes nothing but what `Given` says of templates and page outs.
use Prim.Native.Nat.{ℕ, zero, suc, ◌+◌, ◌-◌, ◌^◌, ◌≤◌, ◌<◌}
use mathlib.Core.Path.{◌≡◌, refl, sym, ap, ap₂, ◌∙◌, subst}
use mathlib.Core.Bool.{Bool, true, false}
use mathlib.Core.List.{List, [], ◌∷◌}
use mathlib.Core.Logic.{◌⊎◌, inl, inr, ◌↔◌}
use native.Mathlib.Omega.{arith}
use lib.Dec.{leb, eqb}
use lib.ListN.{length, drop, replicate, length-replicate}
use Rattle.std.proofs.lemmas.Bool.{cases_Bool}
use borrow.Author.Tests.{le-leb, leb-true, eqb-true}
use Rattle.field.specs.Bytes.{Bytes, AllBytes, pick}
use Rattle.field.proofs.NumberLaws.{all_drop}
use Rattle.catalogue.specs.Page.{Page, house_width, Given, Sound}
use Rattle.catalogue.specs.Catalogue.{most_bytes, page_then, row, size, row_size, build, Reading, no_row, pages, add, all_zero, four, at_lengths, page_in, behind, page_right, read_page, read_row, names_differ, no_name_twice, read_catalogue, AllSound, none_left, one_sound, Holds}
use Rattle.catalogue.proofs.Tests.{and_left, and_right}
use Rattle.catalogue.proofs.Parts.{page_tail, length_page, page_in_then, behind_then, page_right_then, sound_page_in, then_page_in}

-- ---- lengths

pub length_row : (G : Given) (n : ℕ) (ps : List Page) (r : Bytes) → length (row G.format n ps r) ≡ row_size G.format ps + length r
unfolding row row_size
length_row G n [] r = omega arith
length_row G n (p ∷ ps) r = length_page G n p (row G.format (n + G.format.forms p.body) ps r) ∙ omega (arith, length_row G (n + G.format.forms p.body) ps r)

pub length_build : (G : Given) (n : ℕ) (ps : List Page) → row_size G.format ps ≤ n → length (build G.format n ps) ≡ n
unfolding build
length_build G n ps h = length_row G 0 ps (replicate (n - row_size G.format ps) 0) ∙ omega (arith, length-replicate {A = ℕ} (n - row_size G.format ps) 0)

-- ---- what was built is read

zeros_zero : (k : ℕ) → all_zero (replicate k 0) ≡ true
unfolding all_zero
zeros_zero zero = refl
zeros_zero (suc k) = zeros_zero k

read_zeros : (G : Given) (k n z : ℕ) → read_row G.format (suc k) n (replicate z 0) ≡ pages []
unfolding read_row all_zero
read_zeros G k n zero = refl
read_zeros G k n (suc z) = ap (λ (t : Bool). pick t (pages []) no_row) (zeros_zero z)

size_positive : (G : Given) (p : Page) → 1 ≤ size G.format p
unfolding size
size_positive G p = omega arith

read_step : (G : Given) (k n : ℕ) (p : Page) (r : Bytes) → Sound G.format p → size G.format p < 2 ^ 32
    → read_row G.format (suc k) n (page_then G.format n p r) ≡ add p (read_row G.format k (n + G.format.forms p.body) r)
unfolding read_row page_then read_page
read_step G k n p r s h =
    let b : Bytes = page_tail G n p r in
    let f : ℕ → Bytes → Reading = read_row G.format k in
    ap (read_page G.format f n b) (page_in_then G n p r s h)
    ∙ ap (λ (t : Bool). pick t (add p (f (n + G.format.forms p.body) (behind G.format b))) no_row) (page_right_then G n p r s h)
    ∙ ap (λ (z : Bytes). add p (f (n + G.format.forms p.body) z)) (behind_then G n p r s h)

pub read_built : (G : Given) (k n : ℕ) (ps : List Page) (z : ℕ) → AllSound G.format ps → row_size G.format ps < 2 ^ 32 → row_size G.format ps ≤ k
    → read_row G.format (suc k) n (row G.format n ps (replicate z 0)) ≡ pages ps
unfolding row row_size add
read_built G k n [] z none_left h f = read_zeros G k n z
read_built G zero n (p ∷ ps) z (one_sound s a) h f = absurd (omega (arith, size_positive G p))
read_built G (suc k) n (p ∷ ps) z (one_sound s a) h f =
    read_step G (suc k) n p (row G.format (n + G.format.forms p.body) ps (replicate z 0)) s (omega arith)
    ∙ ap (add p) (read_built G k (n + G.format.forms p.body) ps z a (omega arith) (omega (arith, size_positive G p)))

-- ---- what is read was built

record Built (G : Given) (n : ℕ) (b : Bytes) (ps : List Page) : Type 0 where
  sound : AllSound G.format ps
  fits : row_size G.format ps ≤ length b
  is : b ≡ row G.format n ps (replicate (length b - row_size G.format ps) 0)

all_zeros : (b : Bytes) → all_zero b ≡ true → b ≡ replicate (length b) 0
unfolding all_zero
all_zeros [] e = refl
all_zeros (c ∷ b) e = ap₂ (λ (x : ℕ) (y : Bytes). x ∷ y) (eqb-true c 0 (and_left (eqb c 0) (all_zero b) e)) (all_zeros b (and_right (eqb c 0) (all_zero b) e))

pub no_pages : (ps : List Page) {A : Type 0} → no_row ≡ pages ps → A
no_pages ps e = absurd (let z : ◌≡◌ {A = ℕ} 0 1 = cc in omega arith)

built_end : (G : Given) (n : ℕ) (b : Bytes) (ps : List Page) → b ≡ replicate (length b) 0 → pages [] ≡ pages ps → Built G n b ps
unfolding row row_size
built_end G n b ps e f =
    let g : [] ≡ ps = cc in
    let l : length b ≡ length b - 0 = omega arith in
    subst (Built G n b) g (record { sound = none_left; fits = omega arith; is = e ∙ ap (λ (k : ℕ). replicate k 0) l })

pub record Added (p : Page) (o : Reading) (ps : List Page) : Type 0 where
  pub rest : List Page
  pub read_is : o ≡ pages rest
  pub all_is : p ∷ rest ≡ ps

pub added : (p : Page) (o : Reading) (ps : List Page) → add p o ≡ pages ps → Added p o ps
unfolding add
added p no_row ps e = no_pages ps e
added p (pages qs) ps e = record { rest = qs; read_is = refl; all_is = cc }

-- what a reader of the rest gives, it gives of a page and the rest
Builds : Given → (ℕ → Bytes → Reading) → Type 0
Builds G f = (n : ℕ) (b : Bytes) (ps : List Page) → AllBytes b → f n b ≡ pages ps → Built G n b ps

module _ (G : Given) (f : ℕ → Bytes → Reading) (ih : Builds G f) (n : ℕ) (b : Bytes) (ps : List Page) (a : AllBytes b) where
  built_page : page_right G.format b (page_in G.format n b) ≡ true → add (page_in G.format n b) (f (n + G.format.forms (page_in G.format n b).body) (behind G.format b)) ≡ pages ps → Built G n (0x97 ∷ b) ps
  unfolding Builds row row_size
  built_page t e =
      let p : Page = page_in G.format n b in
      let m : ℕ = n + G.format.forms p.body in
      let r : Bytes = behind G.format b in
      let d = added p (f m r) ps e in
      let ar : AllBytes r =
      all_drop (four (drop 4 (at_lengths G.format b))) (drop (four (at_lengths G.format b)) (drop 4 (drop 4 (at_lengths G.format b)))) (all_drop (four (at_lengths G.format b)) (drop 4 (drop 4 (at_lengths G.format b))) (all_drop 4 (drop 4 (at_lengths G.format b)) (all_drop 4 (at_lengths G.format b) (all_drop (house_width G.format.request) (drop 4 b) (all_drop 4 b a))))) in
      let u = ih m r d.rest ar d.read_is in
      let w : page_then G.format n p r ≡ 0x97 ∷ b = then_page_in G n b a t in
      let l : size G.format p + length r ≡ suc (length b) = sym (length_page G n p r) ∙ ap length w in
      let h : row_size G.format d.rest ≤ length r = u.fits in
      let v : length r - row_size G.format d.rest ≡ suc (length b) - (size G.format p + row_size G.format d.rest) = omega arith in
      let i : 0x97 ∷ b ≡ page_then G.format n p (row G.format m d.rest (replicate (suc (length b) - (size G.format p + row_size G.format d.rest)) 0)) =
      sym w ∙ ap (page_then G.format n p) u.is ∙ ap (λ (k : ℕ). page_then G.format n p (row G.format m d.rest (replicate k 0))) v in
      subst (Built G n (0x97 ∷ b)) d.all_is (record { sound = one_sound (sound_page_in G n b a t) u.sound; fits = omega arith; is = i })

  built_97 : read_page G.format f n b (page_in G.format n b) ≡ pages ps → Built G n (0x97 ∷ b) ps
  unfolding read_page
  built_97 e = on (cases_Bool (page_right G.format b (page_in G.format n b)))
    where
      o : Reading
      o = add (page_in G.format n b) (f (n + G.format.forms (page_in G.format n b).body) (behind G.format b))

      on : (page_right G.format b (page_in G.format n b) ≡ true) ⊎ (page_right G.format b (page_in G.format n b) ≡ false) → Built G n (0x97 ∷ b) ps
      on (inl t) = built_page t (sym (ap (λ (q : Bool). pick q o no_row) t) ∙ e)
      on (inr t) = no_pages ps (sym (ap (λ (q : Bool). pick q o no_row) t) ∙ e)

built_other : (G : Given) (n : ℕ) (b : Bytes) (ps : List Page) → pick (all_zero b) (pages []) no_row ≡ pages ps → Built G n b ps
built_other G n b ps e = on (cases_Bool (all_zero b))
  where
    on : (all_zero b ≡ true) ⊎ (all_zero b ≡ false) → Built G n b ps
    on (inl t) = built_end G n b ps (all_zeros b t) (sym (ap (λ (q : Bool). pick q (pages []) no_row) t) ∙ e)
    on (inr t) = no_pages ps (sym (ap (λ (q : Bool). pick q (pages []) no_row) t) ∙ e)

built_read : (G : Given) (k : ℕ) → Builds G (read_row G.format k)
unfolding Builds read_row AllBytes
built_read G zero n b ps a e = no_pages ps e
built_read G (suc k) n [] ps a e = built_end G n [] ps refl e
built_read G (suc k) n (c ∷ b) ps a e = on (built_read G k) (cases_Bool (eqb c 0x97))
  where
    y : Reading
    y = read_page G.format (read_row G.format k) n b (page_in G.format n b)

    z : Reading
    z = pick (all_zero (c ∷ b)) (pages []) no_row

    on : Builds G (read_row G.format k) → (eqb c 0x97 ≡ true) ⊎ (eqb c 0x97 ≡ false) → Built G n (c ∷ b) ps
    on ih (inl t) = subst (λ (x : ℕ). Built G n (x ∷ b) ps) (sym (eqb-true c 0x97 t)) (built_97 G (read_row G.format k) ih n b ps a.1 (sym (ap (λ (q : Bool). pick q y z) t) ∙ e))
    on ih (inr t) = built_other G n (c ∷ b) ps (sym (ap (λ (q : Bool). pick q y z) t) ∙ e)

-- ---- the catalogue

-- what build makes is read back as exactly that list
pub read_back : (G : Given) (b : Bytes) (ps : List Page) → Holds G.format b ps → read_catalogue G.format b ≡ pages ps
unfolding read_catalogue no_name_twice build
read_back G b ps h =
    let l = h.short in
    let m = h.fits in
    ap (λ (t : Bool). pick t (no_name_twice (read_row G.format (suc (length b)) 0 b)) no_row) (le-leb (length b) most_bytes l)
    ∙ ap (λ (z : Bytes). no_name_twice (read_row G.format (suc (length b)) 0 z)) h.is_built
    ∙ ap no_name_twice (read_built G (length b) 0 ps (length b - row_size G.format ps) h.all_sound (omega arith) m)
    ∙ ap (λ (t : Bool). pick t (pages ps) no_row) h.differ

once_named : (o : Reading) (ps : List Page) → no_name_twice o ≡ pages ps → (o ≡ pages ps) × (names_differ ps ≡ true)
unfolding no_name_twice
once_named no_row ps e = no_pages ps e
once_named (pages qs) ps e = on (cases_Bool (names_differ qs))
  where
    on : (names_differ qs ≡ true) ⊎ (names_differ qs ≡ false) → (pages qs ≡ pages ps) × (names_differ ps ≡ true)
    on (inl t) =
        let f : pages qs ≡ pages ps = sym (ap (λ (q : Bool). pick q (pages qs) no_row) t) ∙ e in
        let g : qs ≡ ps = cc in
        (f, subst (λ (l : List Page). names_differ l ≡ true) g t)
    on (inr t) = no_pages ps (sym (ap (λ (q : Bool). pick q (pages qs) no_row) t) ∙ e)

held : (G : Given) (b : Bytes) (ps : List Page) → AllBytes b → read_catalogue G.format b ≡ pages ps → Holds G.format b ps
unfolding read_catalogue build Builds
held G b ps a e = on (cases_Bool (leb (length b) most_bytes))
  where
    o : Reading
    o = no_name_twice (read_row G.format (suc (length b)) 0 b)

    on : (leb (length b) most_bytes ≡ true) ⊎ (leb (length b) most_bytes ≡ false) → Holds G.format b ps
    on (inl t) =
        let w = once_named (read_row G.format (suc (length b)) 0 b) ps (sym (ap (λ (q : Bool). pick q o no_row) t) ∙ e) in
        let u = built_read G (suc (length b)) 0 b ps a w.0 in
        record { short = leb-true (length b) most_bytes t; all_sound = u.sound; differ = w.1; fits = u.fits; is_built = u.is }
    on (inr t) = no_pages ps (sym (ap (λ (q : Bool). pick q o no_row) t) ∙ e)

-- bytes read as these pages exactly where they are the catalogue of these pages
pub read_exactly : (G : Given) (b : Bytes) (ps : List Page) → AllBytes b → (read_catalogue G.format b ≡ pages ps) ↔ Holds G.format b ps
read_exactly G b ps a = (held G b ps a, read_back G b ps)

-- a catalogue holds one list of pages
pub one_list : (G : Given) (b : Bytes) (ps qs : List Page) → Holds G.format b ps → Holds G.format b qs → ps ≡ qs
one_list G b ps qs h i =
    let e : pages ps ≡ pages qs = sym (read_back G b ps h) ∙ read_back G b qs i in
    cc

-- two lists that are built to the same bytes are one
pub built_once : (G : Given) (n : ℕ) (ps qs : List Page) → AllSound G.format ps → AllSound G.format qs → row_size G.format ps ≤ n → row_size G.format qs ≤ n → n ≤ most_bytes
    → build G.format n ps ≡ build G.format n qs → ps ≡ qs
unfolding build
built_once G n ps qs a c l m h e =
    let u : read_row G.format (suc n) 0 (build G.format n ps) ≡ pages ps = read_built G n 0 ps (n - row_size G.format ps) a (omega arith) l in
    let v : read_row G.format (suc n) 0 (build G.format n qs) ≡ pages qs = read_built G n 0 qs (n - row_size G.format qs) c (omega arith) m in
    let w : pages ps ≡ pages qs = sym u ∙ ap (read_row G.format (suc n) 0) e ∙ v in
    cc

no_reading : (o : Reading) → ((ps : List Page) → o ≡ pages ps → ⊥) → o ≡ no_row
no_reading no_row f = refl
no_reading (pages ps) f = absurd (f ps refl)

-- A13: what makes 4: these bytes are the catalogue of no list of pages
pub unread_exactly : (G : Given) (b : Bytes) → AllBytes b → (read_catalogue G.format b ≡ no_row) ↔ ((ps : List Page) → Holds G.format b ps → ⊥)
unread_exactly G b a = (λ e ps h. no_pages ps (sym e ∙ read_back G b ps h), λ f. no_reading (read_catalogue G.format b) (λ ps e. f ps (held G b ps a e)))

-- an empty catalogue: all zeros
pub empty_holds : (G : Given) (n : ℕ) → n ≤ most_bytes → Holds G.format (replicate n 0) []
unfolding build row row_size names_differ
empty_holds G n h =
    let l : length (replicate {A = ℕ} n 0) ≡ n = length-replicate n 0 in
    let m : n ≡ length (replicate {A = ℕ} n 0) - 0 = omega arith in
    record { short = omega arith; all_sound = none_left; differ = refl; fits = omega arith; is_built = ap (λ (k : ℕ). replicate k 0) m }
