-- The kinds of a template's dynamic expressions, found in its static strings as they stand in a buffer. Assumes nothing: these are definitions.
use Rattle.std.specs.Prelude.{ℕ, zero, suc, [], ◌∷◌, eqb}
use Rattle.field.specs.Bytes.{Bytes, pick}
use Rattle.field.specs.Front.{body_of, behind_of}
use Rattle.records.specs.declared.kinds.Sign.{Sign}
use Rattle.records.specs.declared.kinds.Sign.TheVariants as Q

-- where the text so far leaves us: 0 in no opening tag, 2 right behind its `<`, 1 further in
abbrev pub sign : ℕ → ℕ → ℕ
sign q c = pick (eqb c 60) 2 (pick (eqb c 62) 0 (pick (eqb q 2) (pick (eqb c 47) 0 1) q))

unfoldable pub sign_after : ℕ → Bytes → ℕ
sign_after q [] = q
sign_after q (c ∷ cs) = sign_after (sign q c) cs

-- the number of a sign
abbrev pub sign_of : Sign → ℕ
sign_of Q.Outside = 0
sign_of Q.Opened = 2
sign_of Q.Inside = 1

abbrev pub kind_at : ℕ → ℕ
kind_at q = pick (eqb q 0) 2 1

-- of so many fields, one behind the other
unfoldable pub kinds_at : ℕ → ℕ → Bytes → Bytes
kinds_at zero q s = []
kinds_at (suc k) q s = kind_at (sign_after q (body_of s)) ∷ kinds_at k (sign_after q (body_of s)) (behind_of s)
