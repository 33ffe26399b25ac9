-- How code meets the catalogue: an arrival writes one page behind the last; a leaving writes the later pages, lowered, where the page stood,
-- and zeros behind them. Main statements: `arrival_in_place`, `leaving_in_place`,
-- `later_lowered`, `histories_hold`. Assumes nothing but what `Given` says.
use Prim.Native.Nat.{ℕ, ◌+◌, ◌-◌, ◌≤◌}
use mathlib.Core.Path.{◌≡◌, refl, sym, ap, ap₂, ◌∙◌, subst}
use mathlib.Core.Bool.{true, false}
use mathlib.Core.List.{List, [], ◌∷◌, ◌++◌, append_assoc}
use mathlib.Core.Logic.{◌⊎◌, inl, inr}
use native.Mathlib.Omega.{arith}
use lib.Dec.{eqb}
use lib.ListN.{length, drop, replicate, length-append, length-replicate, replicate-append-replicate}
use lib.Seq.{take_at, drop_at, drop-append-add}
use Rattle.std.proofs.lemmas.Bool.{cases_Bool}
use borrow.Author.Tests.{eqb-true, eqb-false}
use Rattle.field.specs.Bytes.{Bytes}
use Rattle.field.specs.Number.{big_endian}
use Rattle.field.specs.Put.{put}
use Rattle.field.proofs.PutLaws.{put_fits}
use Rattle.catalogue.specs.Page.{Body, Page, IsBytes, house_bytes, Given}
use Rattle.catalogue.specs.Catalogue.{most_bytes, page_then, lengths, forms_of, row, size, row_size, build, AllSound, none_left, one_sound, Holds}
use Rattle.catalogue.specs.Shares.{Shares}
use Rattle.catalogue.specs.Calls.{without, before, Call, arrives, leaves, answer, after_call, after_calls, Handed, AllHanded}
use Rattle.catalogue.specs.Words.{remaining, lowered}
use Rattle.catalogue.proofs.Parts.{length_page}
use Rattle.catalogue.proofs.Exact.{length_row}
use Rattle.catalogue.proofs.Lists.{row_append, page_front, row_front, size_append, one_size, Split}
use Rattle.catalogue.proofs.Keeps.{accepted_kept, refused_kept, size_less}

-- behind the bytes in front, w in place of the first bytes of y
put_behind : (x y w z : Bytes) (n : ℕ) → length x ≡ n → y ≡ w ++ z → (v : Bytes) → length v ≡ length w → put (x ++ y) n v ≡ x ++ (v ++ z)
put_behind x y w z n e f v l =
    let g : length (x ++ y) ≡ length x + (length w + length z) = length-append x y ∙ ap (λ (k : ℕ). length x + k) (ap length f ∙ length-append w z) in
    let d : drop (n + length v) (x ++ y) ≡ z =
    ap₂ (λ (i j : ℕ). drop (i + j) (x ++ y)) (sym e) l ∙ drop-append-add x y (length w) ∙ ap (drop (length w)) f ∙ drop_at w z (length w) refl in
    put_fits (x ++ y) n v (omega arith) ∙ ap₂ (λ (a b : Bytes). a ++ (v ++ b)) (take_at x y n e) d

zeros_split : (n m : ℕ) → m ≤ n → replicate {A = ℕ} n 0 ≡ replicate m 0 ++ replicate (n - m) 0
zeros_split n m h =
    let e : n ≡ m + (n - m) = omega arith in
    ap (λ (k : ℕ). replicate k 0) e ∙ sym (replicate-append-replicate m (n - m) 0)

module _ (G : Given) (s : Shares) (b : Bytes) (ps : List Page) (h : Holds G.format b ps) where
  front_length : length (row G.format 0 ps []) ≡ row_size G.format ps
  front_length = length_row G 0 ps [] ∙ omega arith

  -- the page is written behind the last one, its numbers raised by the templates before it
  pub arrival_in_place : (p : Page) → Handed G.format (arrives p) → answer G.format s (arrives p) b ≡ 0
      → after_call G.format s (arrives p) b ≡ put b (row_size G.format ps) (page_then G.format (forms_of G.format ps) p [])
  unfolding build row
  arrival_in_place p k e =
      let w = accepted_kept G s b ps h (arrives p) k e in
      let n : ℕ = length b in
      let v : Bytes = page_then G.format (forms_of G.format ps) p [] in
      let q : row_size G.format (ps ++ (p ∷ [])) ≡ row_size G.format ps + size G.format p = size_append G ps (p ∷ []) ∙ ap (λ (i : ℕ). row_size G.format ps + i) (one_size G p) in
      let f : row_size G.format (ps ++ (p ∷ [])) ≤ n = omega (arith, w.holds_them.fits, w.length_kept) in
      let z : Bytes = replicate (n - row_size G.format (ps ++ (p ∷ []))) 0 in
      let y : Bytes = replicate (n - row_size G.format ps) 0 in
      let lv : length v ≡ size G.format p = length_page G (forms_of G.format ps) p [] ∙ omega arith in
      let i : n - row_size G.format (ps ++ (p ∷ [])) ≡ n - row_size G.format ps - size G.format p = omega arith in
      let g : y ≡ replicate (size G.format p) 0 ++ z = zeros_split (n - row_size G.format ps) (size G.format p) (omega arith) ∙ ap (λ (j : ℕ). replicate (size G.format p) 0 ++ replicate j 0) (sym i) in
      let m : 0 + forms_of G.format ps ≡ forms_of G.format ps = omega arith in
      let t : build G.format n (ps ++ (p ∷ [])) ≡ row G.format 0 ps [] ++ (v ++ z) =
      row_append G 0 ps (p ∷ []) z ∙ ap (λ (j : ℕ). row G.format 0 ps (page_then G.format j p z)) m ∙ row_front G 0 ps (page_then G.format (forms_of G.format ps) p z)
      ∙ ap (λ (c : Bytes). row G.format 0 ps [] ++ c) (page_front G (forms_of G.format ps) p [] z) in
      let u : b ≡ row G.format 0 ps [] ++ y = h.is_built ∙ row_front G 0 ps y in
      w.built_afresh ∙ t ∙ sym (put_behind (row G.format 0 ps []) y (replicate (size G.format p) 0) z (row_size G.format ps) front_length g v (lv ∙ sym (length-replicate (size G.format p) 0)))
      ∙ ap (λ (c : Bytes). put c (row_size G.format ps) v) (sym u)

  -- the later pages are written where the page stood, their numbers raised by the templates before it alone, and zeros as long as it was
  pub leaving_in_place : (x : ℕ) (e : answer G.format s (leaves x) b ≡ 0) (d : Split x ps)
      → after_call G.format s (leaves x) b ≡ put b (row_size G.format (before x ps)) (row G.format (forms_of G.format (before x ps)) d.later [] ++ replicate (size G.format d.gone) 0)
  unfolding build row
  leaving_in_place x e d =
      let w = accepted_kept G s b ps h (leaves x) tt e in
      let n : ℕ = length b in
      let fs : List Page = before x ps in
      let m : ℕ = forms_of G.format fs in
      let v : Bytes = row G.format m d.later [] ++ replicate (size G.format d.gone) 0 in
      let z : Bytes = replicate (n - row_size G.format ps) 0 in
      let z' : Bytes = replicate (n - row_size G.format (without x ps)) 0 in
      let l : row_size G.format (without x ps) + size G.format d.gone ≡ row_size G.format ps = size_less G s b ps h x d in
      let f : row_size G.format ps ≤ n = h.fits in
      let i : n - row_size G.format (without x ps) - size G.format d.gone ≡ n - row_size G.format ps = omega arith in
      let g : z' ≡ replicate (size G.format d.gone) 0 ++ z = zeros_split (n - row_size G.format (without x ps)) (size G.format d.gone) (omega arith) ∙ ap (λ (j : ℕ). replicate (size G.format d.gone) 0 ++ replicate j 0) i in
      let o : 0 + forms_of G.format fs ≡ m = omega arith in
      -- what stands there
      let r : Bytes = page_then G.format m d.gone (row G.format (m + G.format.forms d.gone.body) d.later []) in
      let u : b ≡ row G.format 0 fs [] ++ (r ++ z) =
      h.is_built ∙ ap (λ (q : List Page). row G.format 0 q z) d.all_is ∙ row_append G 0 fs (d.gone ∷ d.later) z
      ∙ ap (λ (j : ℕ). row G.format 0 fs (page_then G.format j d.gone (row G.format (j + G.format.forms d.gone.body) d.later z))) o
      ∙ row_front G 0 fs (page_then G.format m d.gone (row G.format (m + G.format.forms d.gone.body) d.later z))
      ∙ ap (λ (c : Bytes). row G.format 0 fs [] ++ page_then G.format m d.gone c) (row_front G (m + G.format.forms d.gone.body) d.later z)
      ∙ ap (λ (c : Bytes). row G.format 0 fs [] ++ c) (page_front G m d.gone (row G.format (m + G.format.forms d.gone.body) d.later []) z) in
      -- what is to stand there
      let t : build G.format n (without x ps) ≡ row G.format 0 fs [] ++ (v ++ z) =
      ap (λ (q : List Page). row G.format 0 q z') d.rest_is ∙ row_append G 0 fs d.later z' ∙ ap (λ (j : ℕ). row G.format 0 fs (row G.format j d.later z')) o
      ∙ row_front G 0 fs (row G.format m d.later z') ∙ ap (λ (c : Bytes). row G.format 0 fs [] ++ c) (row_front G m d.later z' ∙ ap (λ (c : Bytes). row G.format m d.later [] ++ c) g ∙ sym (append_assoc (row G.format m d.later []) (replicate (size G.format d.gone) 0) z)) in
      let lf : length (row G.format 0 fs []) ≡ row_size G.format fs = length_row G 0 fs [] ∙ omega arith in
      let lv : length v ≡ row_size G.format d.later + size G.format d.gone =
      length-append (row G.format m d.later []) (replicate (size G.format d.gone) 0) ∙ ap₂ (λ (i j : ℕ). i + j) (length_row G m d.later []) (length-replicate (size G.format d.gone) 0) ∙ omega arith in
      let lr : length r ≡ size G.format d.gone + row_size G.format d.later =
      length_page G m d.gone (row G.format (m + G.format.forms d.gone.body) d.later []) ∙ ap (λ (j : ℕ). size G.format d.gone + j) (length_row G (m + G.format.forms d.gone.body) d.later []) ∙ omega arith in
      w.built_afresh ∙ t ∙ sym (put_behind (row G.format 0 fs []) (r ++ z) r z (row_size G.format fs) lf refl v (omega arith)) ∙ ap (λ (c : Bytes). put c (row_size G.format fs) v) (sym u)

-- ---- the one pass of a leaving

-- numbers raised by m + f and lowered by f are raised by m
unfoldable pub Lowers : Given → Type 0
Lowers G = (m f : ℕ) (x : Body) → IsBytes x → G.format.judge x ≡ 0 → G.format.down f (G.format.up (m + f) x) ≡ G.format.up m x

-- so the later pages are moved as they stand, and each number falls by the templates of the page that left
pub later_lowered : (G : Given) → Lowers G → (m f : ℕ) (ps : List Page) (r : Bytes) → AllSound G.format ps → lowered G.format f (m + f) ps r ≡ row G.format m ps r
unfolding Lowers lowered row page_then
later_lowered G w m f [] r none_left = refl
later_lowered G w m f (p ∷ ps) r (one_sound s a) =
    let e : m + f + G.format.forms p.body ≡ m + G.format.forms p.body + f = omega arith in
    ap₂ (λ (x : Body) (y : Bytes). 0x97 ∷ (big_endian 4 p.name [] ++ (house_bytes G.format.request p.house ++ lengths x y)))
    (w m f p.body s.of_bytes s.judged)
    (ap (λ (n : ℕ). lowered G.format f n ps r) e ∙ later_lowered G w (m + G.format.forms p.body) f ps r a)

-- ---- numbers

-- where a sound page has no more templates than bytes of them, no number of a catalogue passes 16,777,216, and none begins again at 0
pub numbers_short : (G : Given) → ((x : Body) → G.format.judge x ≡ 0 → G.format.forms x ≤ length x.templates) → (b : Bytes) (ps : List Page) → Holds G.format b ps → forms_of G.format ps ≤ most_bytes
unfolding forms_of row_size size
numbers_short G few b ps h = omega (arith, all_few ps h.all_sound, h.fits, h.short)
  where
    all_few : (qs : List Page) → AllSound G.format qs → forms_of G.format qs ≤ row_size G.format qs
    all_few [] none_left = omega arith
    all_few (p ∷ qs) (one_sound s a) = omega (arith, few p.body s.judged, all_few qs a)

-- ---- over histories

-- whatever calls came, the catalogue holds some pages: no call is ever refused as 4
pub histories_hold : (G : Given) (s : Shares) (cs : List Call) (b : Bytes) (ps : List Page) → AllHanded G.format cs → Holds G.format b ps → (qs : List Page) × Holds G.format (after_calls G.format s cs b) qs
unfolding after_calls
histories_hold G s [] b ps k h = (ps, h)
histories_hold G s (c ∷ cs) b ps k h = on (cases_Bool (eqb (answer G.format s c b) 0)) (histories_hold G s cs (after_call G.format s c b))
  where
    on : (eqb (answer G.format s c b) 0 ≡ true) ⊎ (eqb (answer G.format s c b) 0 ≡ false)
        → ((rs : List Page) → AllHanded G.format cs → Holds G.format (after_call G.format s c b) rs → (qs : List Page) × Holds G.format (after_calls G.format s cs (after_call G.format s c b)) qs)
        → (qs : List Page) × Holds G.format (after_calls G.format s cs (after_call G.format s c b)) qs
    on (inl t) ih = ih (remaining c ps) k.1 (accepted_kept G s b ps h c k.0 (eqb-true (answer G.format s c b) 0 t)).holds_them
    on (inr t) ih = ih ps k.1 (subst (λ (d : Bytes). Holds G.format d ps) (sym (refused_kept G s c b (eqb-false (answer G.format s c b) 0 t))) h)
