-- `normalize_namespaced` meets its contract: xlink:href, and all others in small letters on both sides of the colon.
use mathlib.Core.Path.{◌≡◌, sym, ap, ap₂, ◌∙◌}
use mathlib.Core.List.{◌∷◌, [], ◌++◌, append_assoc}
use native.Mathlib.Omega.{arith}
use lib.ListN.{length}
use Rattle.std.specs.Prelude.{None}
use Rattle.field.specs.Bytes.{Bytes}
use Rattle.field.proofs.PutLaws.{wrote_is, wrote_then}
use Rattle.names.specs.Names.{small_letters}
use Rattle.names.specs.Table.{spelled}
use Rattle.names.proofs.CompareLaws.{length_small}
use Rattle.names.proofs.MarkLaws.{spelled_none}
use Rattle.names.proofs.NamespacedLaws.{namespaced_other, namespaced_length}
use Rattle.names.proofs.attributes.normalize_namespaced.Goals as goal

length_none : (n : Bytes) → length (spelled None n) ≡ length n
length_none n = ap length (spelled_none n) ∙ length_small n

parts : (ns n : Bytes) → (spelled None ns ++ (58 ∷ [])) ++ spelled None n ≡ small_letters ns ++ (58 ∷ small_letters n)
parts ns n = append_assoc (spelled None ns) (58 ∷ []) (spelled None n) ∙ ap₂ (λ (a b : Bytes). a ++ (58 ∷ b)) (spelled_none ns) (spelled_none n)

pub put_spelled-a-requires : goal.put_spelled-a-requires
put_spelled-a-requires c = let a = c.args in let l = namespaced_length a.ns.now a.name.now (sym c.is_xlink_href.ensures ∙ c.if-is_xlink_href.false) in
    omega (arith, l, length_none a.ns.now)

pub put_byte-b-requires : goal.put_byte-b-requires
put_byte-b-requires c = let a = c.args in let l = namespaced_length a.ns.now a.name.now (sym c.is_xlink_href.ensures ∙ c.if-is_xlink_href.false) in
    omega (arith, l, length_none a.ns.now, c.put_spelled-a.ensures.end_is)

pub put_spelled-requires : goal.put_spelled-requires
put_spelled-requires c = let a = c.args in let l = namespaced_length a.ns.now a.name.now (sym c.is_xlink_href.ensures ∙ c.if-is_xlink_href.false) in
    omega (arith, l, length_none a.ns.now, length_none a.name.now, c.put_spelled-a.ensures.end_is, c.put_byte-b.ensures.end_is)

pub returns : goal.returns
returns c = let a = c.args in let e = namespaced_other a.ns.now a.name.now (sym c.is_xlink_href.ensures ∙ c.if-is_xlink_href.false) in
    wrote_is (parts a.ns.now a.name.now ∙ sym e) (wrote_then (wrote_then c.put_spelled-a.ensures c.put_byte-b.ensures) c.put_spelled.ensures)
