-- The theorems on a catalogue of the project's templates and page outs: each is the general one at `given`. Main statement: `given`.
-- Assumes nothing.
use Prim.Native.Nat.{ℕ, ◌+◌, ◌≤◌}
use mathlib.Core.Path.{◌≡◌, refl}
use mathlib.Core.Bool.{true, false}
use mathlib.Core.List.{List, [], ◌++◌}
use mathlib.Core.Logic.{◌↔◌}
use lib.ListN.{length, replicate}
use Rattle.field.specs.Bytes.{Bytes, AllBytes}
use Rattle.field.specs.Put.{put}
use Rattle.catalogue.specs.Page.{Page, Request, A14, Given, Sound}
use Rattle.catalogue.specs.Catalogue.{most_bytes, page_then, row, forms_of, size, row_size, build, no_row, pages, read_catalogue, present, AllSound, Holds}
use Rattle.catalogue.specs.Shares.{Shares, shares_right, used, others}
use Rattle.catalogue.specs.Calls.{before, Call, arrives, leaves, answer, after_call, after_calls, pages_of, Handed, AllHanded}
use Rattle.catalogue.specs.Words.{Kept, lowered, since_empty, Room, OfAnother, Alike}
use Rattle.catalogue.specs.Judged.{judge, forms, project}
use Rattle.catalogue.proofs.Exact as E
use Rattle.catalogue.proofs.Lists.{Split}
use Rattle.catalogue.proofs.Keeps as K
use Rattle.catalogue.proofs.Guarantee as G
use Rattle.catalogue.proofs.Apart as A
use Rattle.catalogue.proofs.InPlace as I
use Rattle.catalogue.proofs.Rows.{given_by_rows, lowers_by_rows}
use Rattle.catalogue.proofs.Numbered.{forms_few}

-- all that the theorems ask holds of the project's rows
abbrev pub given : Request → Given
given q = given_by_rows q judge forms

module _ (q : Request) where
  -- ---- reading and building

  pub read_exactly : (b : Bytes) (ps : List Page) → AllBytes b → (read_catalogue (project q) b ≡ pages ps) ↔ Holds (project q) b ps
  unfolding project
  read_exactly b ps a = E.read_exactly (given q) b ps a

  pub unread_exactly : (b : Bytes) → AllBytes b → (read_catalogue (project q) b ≡ no_row) ↔ ((ps : List Page) → Holds (project q) b ps → ⊥)
  unfolding project
  unread_exactly b a = E.unread_exactly (given q) b a

  pub built_once : (n : ℕ) (ps qs : List Page) → AllSound (project q) ps → AllSound (project q) qs → row_size (project q) ps ≤ n → row_size (project q) qs ≤ n → n ≤ most_bytes
      → build (project q) n ps ≡ build (project q) n qs → ps ≡ qs
  unfolding project
  built_once n ps qs a c l m h e = E.built_once (given q) n ps qs a c l m h e

  pub one_list : (b : Bytes) (ps qs : List Page) → Holds (project q) b ps → Holds (project q) b qs → ps ≡ qs
  unfolding project
  one_list b ps qs h i = E.one_list (given q) b ps qs h i

  -- no number passes 16,777,216, so none wraps
  pub numbers_short : (b : Bytes) (ps : List Page) → Holds (project q) b ps → forms_of (project q) ps ≤ most_bytes
  unfolding project
  numbers_short b ps h = I.numbers_short (given q) (λ x e. forms_few x) b ps h

  -- ---- a call

  pub accepted_kept : (s : Shares) (b : Bytes) (ps : List Page) → Holds (project q) b ps → (c : Call) → Handed (project q) c → answer (project q) s c b ≡ 0 → Kept (project q) c b ps (after_call (project q) s c b)
  unfolding project
  accepted_kept s b ps h c k e = K.accepted_kept (given q) s b ps h c k e

  pub refused_kept : (s : Shares) (c : Call) (b : Bytes) → (answer (project q) s c b ≡ 0 → ⊥) → after_call (project q) s c b ≡ b
  unfolding project
  refused_kept s c b f = K.refused_kept (given q) s c b f

  pub arrival_in_place : (s : Shares) (b : Bytes) (ps : List Page) → Holds (project q) b ps → (p : Page) → Handed (project q) (arrives p) → answer (project q) s (arrives p) b ≡ 0
      → after_call (project q) s (arrives p) b ≡ put b (row_size (project q) ps) (page_then (project q) (forms_of (project q) ps) p [])
  unfolding project
  arrival_in_place s b ps h p k e = I.arrival_in_place (given q) s b ps h p k e

  pub leaving_in_place : (s : Shares) (b : Bytes) (ps : List Page) → Holds (project q) b ps → (x : ℕ) → answer (project q) s (leaves x) b ≡ 0 → (d : Split x ps)
      → after_call (project q) s (leaves x) b ≡ put b (row_size (project q) (before x ps)) (row (project q) (forms_of (project q) (before x ps)) d.later [] ++ replicate (size (project q) d.gone) 0)
  unfolding project
  leaving_in_place s b ps h x e d = I.leaving_in_place (given q) s b ps h x e d

  pub later_lowered : (m f : ℕ) (ps : List Page) (r : Bytes) → AllSound (project q) ps → lowered (project q) f (m + f) ps r ≡ row (project q) m ps r
  unfolding project
  later_lowered m f ps r a = I.later_lowered (given q) (lowers_by_rows q judge forms) m f ps r a

  pub histories_hold : (s : Shares) (cs : List Call) (b : Bytes) (ps : List Page) → AllHanded (project q) cs → Holds (project q) b ps → (qs : List Page) × Holds (project q) (after_calls (project q) s cs b) qs
  unfolding project
  histories_hold s cs b ps k h = I.histories_hold (given q) s cs b ps k h

-- ---- shares

pub taken_exactly : (s : Shares) (b : Bytes) (ps : List Page) (p : Page) → Holds (project A14) b ps → judge p.body ≡ 0 → 1 ≤ p.house → p.house ≤ 16 → shares_right (length b) s ≡ true → present p.name ps ≡ false
    → (answer (project A14) s (arrives p) b ≡ 0) ↔ Room (project A14) s (length b) ps p
unfolding project
taken_exactly s b ps p h j l m r x = G.taken_exactly (given A14) s b ps p refl h j l m r x

pub guaranteed : (s : Shares) (n : ℕ) (cs : List Call) (p : Page) → n ≤ most_bytes → shares_right n s ≡ true → AllHanded (project A14) cs
    → Sound (project A14) p → present p.name (pages_of (project A14) (since_empty (project A14) s n cs)) ≡ false
    → used (project A14) p.house (pages_of (project A14) (since_empty (project A14) s n cs)) + size (project A14) p ≤ s.guarantee p.house
    → answer (project A14) s (arrives p) (since_empty (project A14) s n cs) ≡ 0
unfolding project
guaranteed s n cs p l r k z x g = G.guaranteed (given A14) s n cs p refl l r k z x g

module _ (s : Shares) (g : ℕ) (c : Call) (b₁ : Bytes) (ps₁ : List Page) (b₂ : Bytes) (ps₂ : List Page)
    (l : 1 ≤ g) (m : g ≤ 16) (k : Handed (project A14) c) (d : OfAnother g c) (w : Alike (project A14) s g c b₁ ps₁ b₂ ps₂) where
  pub apart_number : answer (project A14) s c b₁ ≡ answer (project A14) s c b₂
  unfolding project
  apart_number = A.apart_number (given A14) s g c b₁ ps₁ b₂ ps₂ refl l m k d w

  pub apart_pages : others g (pages_of (project A14) (after_call (project A14) s c b₁)) ≡ others g (pages_of (project A14) (after_call (project A14) s c b₂))
  unfolding project
  apart_pages = A.apart_pages (given A14) s g c b₁ ps₁ b₂ ps₂ refl l m k d w
