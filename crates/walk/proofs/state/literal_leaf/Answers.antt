-- What an arm writes is the expression that its tag says.
use native.Mathlib.Omega.{arith}
use mathlib.Core.Path.{refl}
use mathlib.Core.List.{[]}
use Rattle.walk.specs.See.{at}
use Rattle.walk.proofs.LeafLaws.{low_as, done_as}
use Rattle.walk.proofs.ArmLaws.{front_is, literal_bytes, literal_number, literal_boolean, literal_null}
use Rattle.walk.proofs.state.literal_leaf.Goals as goal

pub leaf-requires : goal.leaf-requires
leaf-requires c = let a = c.args in low_as (at [] a.page.now a.st) (literal_bytes a.s.now (front_is a.s.now _ c.field_at.ensures _ refl c.unwrap_or-field.ensures (λ z. grind (arith, z))) c.in-112.is) c.requires

pub returns-in-112 : goal.returns-in-112
returns-in-112 c = let a = c.args in done_as (at [] a.page.now a.st) (literal_bytes a.s.now (front_is a.s.now _ c.field_at.ensures _ refl c.unwrap_or-field.ensures (λ z. grind (arith, z))) c.in-112.is) c.leaf.ensures

pub number_leaf-requires : goal.number_leaf-requires
number_leaf-requires c = let a = c.args in low_as (at [] a.page.now a.st) (literal_number a.s.now (front_is a.s.now _ c.field_at.ensures _ refl c.unwrap_or-field.ensures (λ z. grind (arith, z))) (grind arith)) c.requires

pub returns-in-113 : goal.returns-in-113
returns-in-113 c = let a = c.args in done_as (at [] a.page.now a.st) (literal_number a.s.now (front_is a.s.now _ c.field_at.ensures _ refl c.unwrap_or-field.ensures (λ z. grind (arith, z))) (grind arith)) c.number_leaf.ensures

pub leaf-requires-in-114 : goal.leaf-requires-in-114
leaf-requires-in-114 c = let a = c.args in low_as (at [] a.page.now a.st) (literal_boolean a.s.now (front_is a.s.now _ c.field_at.ensures _ refl c.unwrap_or-field.ensures (λ z. grind (arith, z))) c.in-114.is c.boolean_in.ensures c.from.ensures) c.requires

pub returns-in-114 : goal.returns-in-114
returns-in-114 c = let a = c.args in done_as (at [] a.page.now a.st) (literal_boolean a.s.now (front_is a.s.now _ c.field_at.ensures _ refl c.unwrap_or-field.ensures (λ z. grind (arith, z))) c.in-114.is c.boolean_in.ensures c.from.ensures) c.leaf-in-114.ensures

pub leaf-requires-in_default : goal.leaf-requires-in_default
leaf-requires-in_default c = let a = c.args in low_as (at [] a.page.now a.st) (literal_null a.s.now _ c.field_at.ensures _ refl c.unwrap_or-field.ensures (λ z. grind (arith, z)) (λ z. grind (arith, z)) (λ z. grind (arith, z)) (λ z. grind (arith, z)) (λ z. grind (arith, z)) (λ z. grind (arith, z)) (λ z. grind (arith, z))) c.requires

pub returns-in_default : goal.returns-in_default
returns-in_default c = let a = c.args in done_as (at [] a.page.now a.st) (literal_null a.s.now _ c.field_at.ensures _ refl c.unwrap_or-field.ensures (λ z. grind (arith, z)) (λ z. grind (arith, z)) (λ z. grind (arith, z)) (λ z. grind (arith, z)) (λ z. grind (arith, z)) (λ z. grind (arith, z)) (λ z. grind (arith, z))) c.leaf-in_default.ensures
