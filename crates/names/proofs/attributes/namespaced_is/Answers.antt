-- `namespaced_is` meets its contract, of a text that has the namespace and the colon.
use mathlib.Core.Path.{sym, ap, ◌∙◌}
use mathlib.Core.Bool.{false≢true}
use native.Mathlib.Omega.{arith}
use Prim.Native.Nat.{◌+◌, ◌-◌}
use lib.ListN.{length, drop, get_or, length-drop}
use lib.Seq.{take_all}
use borrow.Author.Tests.{eq-eqb, eqb-true, ltb-true}
use Rattle.field.specs.Bytes.{same}
use Rattle.names.specs.Names.{small_letters}
use Rattle.names.proofs.NamespacedLaws.{namespaced_same}
use Rattle.names.proofs.attributes.namespaced_is.Goals as goal
use Rattle.names.proofs.attributes.namespaced_is.Goals.{then-n-b, else-n-b, then-b-n-eq58, else-b-n-eq58}

pub returns-then-letters_are : goal.returns-then-letters_are
returns-then-letters_are c = let a = c.args in let o = sym c.is_xlink_href.ensures ∙ c.if-is_xlink_href.false in
    let k = length a.ns.now in
    elim c.if-b-n-eq58.branch [
      | then-b-n-eq58 w ↦ elim c.if-n-b.branch [
        | then-n-b v ↦
            let e = sym w.letters_are.ensures ∙ (sym w.value-is ∙ c.if-letters_are.true) in
            let q = sym v.value-is ∙ w.if-b-n-eq58.true in let f = eq-eqb 58 (get_or a.b.now k 0) (sym (eqb-true _ _ q)) in
            let t = take_all (length a.b.now - (k + 1)) (drop (k + 1) a.b.now) (omega (arith, length-drop (k + 1) a.b.now)) in
            c.letters_are-then-letters_are.ensures ∙ (ap (same (small_letters a.name.now)) t ∙ sym (namespaced_same a.ns.now a.name.now a.b.now o v.if-n-b.true ∙ rw (e, f)))
        | else-n-b v ↦ absurd (omega (arith, v.if-n-b.false, ltb-true _ _ (sym v.value-is ∙ w.if-b-n-eq58.true)))
      ]
      | else-b-n-eq58 w ↦ absurd (false≢true (sym w.if-b-n-eq58.false ∙ (sym w.value-is ∙ c.if-letters_are.true)))
    ]
