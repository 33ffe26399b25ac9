-- The invariant: no two of the names that were passed are one, and each is noted under both halves of its hash.
use mathlib.Core.Path.{◌≡◌, sym, ap, ◌∙◌, subst}
use Prim.Native.Nat.{◌/◌, ◌%◌}
use mathlib.Core.Bool.{false}
use mathlib.Core.List.{List, map, [], ◌∷◌}
use native.Mathlib.Omega.{arith}
use lib.ListN.{length, length-append}
use Rattle.std.proofs.lemmas.List.{map-append, length-map}
use Rattle.field.specs.Bytes.{Bytes, among}
use Rattle.decisions.specs.declared.attribute.Attributes.{Attributes}
use Rattle.decisions.specs.Repeats.{name_hash, name_in, names_in}
use Rattle.decisions.proofs.RepeatLaws.{Passed, passed_none, passed_found, passed_one, passed_all, passed_front, names_step, names_gone, noted_none, noted_more, not_noted, low_key, high_key}
use Rattle.decisions.proofs.repeats.by_hashes.Goals as goal
use Rattle.decisions.proofs.repeats.by_hashes.Goals.{else-low-i-via-then-low-i+then-high-j+else-earlier_has, else-low-i-via-then-low-i+else-high-j, else-low-i-via-else-low-i}

pub loop-k-init : goal.loop-k-init
loop-k-init c =
    let g = c.into_iter-k-iterator.ensures.into_iter_gives in
    let e = c.enumerate-k-items.ensures in
    (subst (λ (x : Attributes). Passed (names_in c.args.s.now) [] (names_in x.0.now)) (sym (ap (λ i. i.iter) g ∙ e.source)) (passed_none _), ap (λ i. i.count) g ∙ e.count, noted_none (low_key (length c.args.low.now)) c.args.low.now, noted_none (high_key (length c.args.high.now)) c.args.high.now)

pub returns-then-earlier_has : goal.returns-then-earlier_has
returns-then-earlier_has c =
    let i = c.loop-k.invariant in
    let f = c.in-Some.ensures.steps in
    let k = f.1 ∙ i.1 ∙ sym (length-map c.loop-k.yielded (λ p. name_in p.1.now)) in
    passed_found i.0 (names_step f.0) (c.earlier_has.ensures ∙ ap (among (name_in c.in-Some.a.now)) (passed_front i.0 (names_step f.0) k)) c.if-earlier_has.true

pub loop-k-preserved : goal.loop-k-preserved
loop-k-preserved c =
    let i = c.loop-k.invariant in
    let f = c.in-Some.ensures.steps in
    let x = name_in c.in-Some.a.now in
    let P : List Bytes = map (λ p. name_in p.1.now) c.loop-k.yielded in
    let h : c.hash-hash.result ≡ name_hash x = c.hash-hash.ensures ∙ ap name_hash c.of_attr.ensures in
    let low : c.hash-hash.result % length c.loop-k.low ≡ low_key (length c.args.low.now) x = rw (h, c.loop-k.auto.low) in
    let high : c.hash-hash.result / 65536 % length c.loop-k.high ≡ high_key (length c.args.high.now) x = rw (h, c.loop-k.auto.high) in
    let k = f.1 ∙ i.1 ∙ sym (length-map c.loop-k.yielded (λ p. name_in p.1.now)) in
    let new : among x P ≡ false =
    elim c.else-low-i.branch [
      | else-low-i-via-then-low-i+then-high-j+else-earlier_has w ↦ ap (among x) (sym (passed_front i.0 (names_step f.0) k)) ∙ sym w.earlier_has.ensures ∙ w.if-earlier_has.false
      | else-low-i-via-then-low-i+else-high-j w ↦ not_noted (high_key (length c.args.high.now)) c.loop-k.high P x high w.if-high-j.false i.3
      | else-low-i-via-else-low-i w ↦ not_noted (low_key (length c.args.low.now)) c.loop-k.low P x low w.if-low-i.false i.2
    ] in
    rw (map-append (λ p. name_in p.1.now) c.loop-k.yielded ((c.in-Some.k, c.in-Some.a) ∷ []))
    (passed_one i.0 (names_step f.0) new, omega (arith, f.2, i.1, length-append c.loop-k.yielded ((c.in-Some.k, c.in-Some.a) ∷ [])), noted_more (low_key (length c.args.low.now)) c.loop-k.low P x low (omega (arith, c.requires.0, c.loop-k.auto.low)) i.2, noted_more (high_key (length c.args.high.now)) c.loop-k.high P x high (omega (arith, c.requires.1, c.loop-k.auto.high)) i.3)

pub returns : goal.returns
returns c = passed_all c.loop-k.invariant.0 (names_gone c.in-None.ensures.steps.0)
