-- What a call comes to, by what the catalogue holds. Main statements: `holds_of`, `unread`, `is_held`, `held`, `name_absent`, `goes`, `nothing_changed`; `none_err`, `some_ok`,
-- `passed_on`. Assumes nothing.
use Prim.Native.Nat.{ℕ}
use mathlib.Core.Path.{◌≡◌, refl, sym, ap, ◌∙◌, subst}
use mathlib.Core.Bool.{Bool, true, false}
use mathlib.Core.List.{List}
use Rattle.std.specs.Prelude.{Option, Some, None, Result, Ok, Err, IsErr, IsErrAnd}
use Rattle.std.specs.Option.{ok_or}
use lib.ListN.{length}
use Rattle.field.specs.Bytes.{Bytes, AllBytes}
use Rattle.catalogue.specs.Page.{Page, A14}
use Rattle.catalogue.specs.Catalogue.{no_row, pages, read_catalogue, present, Holds}
use Rattle.catalogue.specs.Shares.{Shares}
use Rattle.catalogue.specs.Calls as C
use Rattle.catalogue.specs.Calls.{Call, leaves, Outcome, refused, remain, unless, without, called, judged, outcome, number, used_after, pages_after, left_by}
use Rattle.catalogue.proofs.Project as P
use Rattle.catalogue_calls.specs.Standing.{housed}
use Rattle.catalogue_calls.specs.Answer.{leaving, Catalogues}
use Rattle.catalogue_calls.specs.Reads.{Reads, Holding}
use Rattle.catalogue_calls.specs.declared.read.Held.{Held}

-- ---- answers that are passed on

pub none_err : {A E : Type 0} (o : Option A) (e f : E) → ok_or o e ≡ Err f → (o ≡ None) × (e ≡ f)
none_err None e f h = (refl, cc)
none_err (Some a) e f h = cc

pub some_ok : {A E : Type 0} (o : Option A) (e : E) (a : A) → ok_or o e ≡ Ok a → o ≡ Some a
some_ok None e a h = cc
some_ok (Some b) e a h = cc

pub passed_on : {A E : Type 0} (P : Result A E → Type 0) (r : Result A E) (e : E) → IsErr r × IsErrAnd r (λ u. u ≡ e) → P (Err e) → P r
passed_on P (Ok n) e h j = absurd h.1
passed_on {A} {E} P (Err u) e h j = subst (λ (v : E). P (Err v)) (sym h.1) j

-- ---- outcomes

pub holds_of : {b : Bytes} {used count forms : ℕ} → AllBytes b → (h : Holding b used count forms) → Holds housed b h.pages
holds_of {b} a h = (P.read_exactly A14 b h.pages a).0 h.reads

not_held : (s : Shares) (c : Call) (b : Bytes) → read_catalogue housed b ≡ no_row → outcome housed s c b ≡ refused 4
unfolding outcome judged
not_held s c b e = ap (judged housed (length b) s c) e

pub unread : (s : Shares) (c : Call) (b : Bytes) (r : Option Held) → Reads b r → r ≡ None → outcome housed s c b ≡ refused 4
unread s c b None e h = not_held s c b e
unread s c b (Some p) e h = cc

pub is_held : (b : Bytes) (r : Option Held) (p : Held) → Reads b r → r ≡ Some p → Holding b p.used p.pages p.forms
is_held b r p e h = subst (Reads b) h e

pub held : (s : Shares) (c : Call) (b : Bytes) (ps : List Page) → read_catalogue housed b ≡ pages ps → outcome housed s c b ≡ called housed (length b) s c ps
unfolding outcome judged
held s c b ps e = ap (judged housed (length b) s c) e

module _ (b : Bytes) (x : ℕ) (ps : List Page) (h : read_catalogue housed b ≡ pages ps) where
  pub name_absent : present x ps ≡ false → leaving b x ≡ refused 22
  unfolding called unless C.leaving present
  name_absent e = held (record { guarantee = λ k. 0; most = λ k. 0 }) (leaves x) b ps h ∙ ap (λ (t : Bool). unless t 22 (remain (without x ps))) e

  pub goes : present x ps ≡ true → leaving b x ≡ remain (without x ps)
  unfolding called unless C.leaving present
  goes e = held (record { guarantee = λ k. 0; most = λ k. 0 }) (leaves x) b ps h ∙ ap (λ (t : Bool). unless t 22 (remain (without x ps))) e

-- what is refused changes nothing
pub nothing_changed : (o : Outcome) (b : Bytes) (n : ℕ) → o ≡ refused n → Catalogues o b n 0 0 b
unfolding number used_after pages_after left_by
nothing_changed o b n e = subst (λ (i : Outcome). Catalogues i b n 0 0 b) (sym e) (record { number_is = refl; used_is = refl; pages_is = refl; bytes_are = refl })
