use mathlib.Core.Logic.{⊎_elim}
use native.Mathlib.Omega.{arith}
use Rattle.decisions.proofs.Series.{tested}
use Rattle.decisions.proofs.ExprLaws.{shape_70, shape_number, shape_72, shape_74, shape_minus, shape_76, shape_79, shape_30, shape_31, shape_null, shape_none}
use Rattle.decisions.proofs.expr.shape_at.Goals as goal

pub returns-in_default : goal.returns-in_default
returns-in_default c = shape_none _ c.in_default.ensures.ended

pub returns-in-112 : goal.returns-in-112
returns-in-112 c = shape_70 _ _ c.in-Some.ensures.tag_is c.in-112.is

pub returns-in-113 : goal.returns-in-113
returns-in-113 c = shape_number _ _ c.in-Some.ensures.tag_is c.in-113.is

pub returns-in-114 : goal.returns-in-114
returns-in-114 c = shape_72 _ _ c.in-Some.ensures.tag_is c.in-114.is c.in-Some.ensures.body_is c.boolean_in.ensures

pub returns-in-116 : goal.returns-in-116
returns-in-116 c = shape_74 _ _ c.in-Some.ensures.tag_is c.in-116.is

pub returns-in-117 : goal.returns-in-117
returns-in-117 c = shape_minus _ _ c.in-Some.ensures.tag_is c.in-117.is

pub returns-in-118 : goal.returns-in-118
returns-in-118 c = ⊎_elim (shape_76 _ _ c.in-Some.ensures.tag_is) (shape_79 _ _ c.in-Some.ensures.tag_is) c.in-118.is

pub returns-in-118-2 : goal.returns-in-118-2
returns-in-118-2 c = let f = c.in-Some.ensures in tested _ 0x30 (shape_30 _ _ f.tag_is) (λ a. shape_31 _ _ f.tag_is (omega (arith, a)))

pub returns-in_default-tag : goal.returns-in_default-tag
returns-in_default-tag c = let f = c.in-Some.ensures in shape_null _ _ f.tag_is (λ z. omega (arith, f.tag_below, z)) (λ z. omega (arith, z)) (λ z. grind (arith, z)) (λ z. omega (arith, z)) (λ z. omega (arith, z)) (λ z. grind (arith, z)) (λ z. grind (arith, z)) (λ z. grind (arith, z)) (λ z. grind (arith, z)) (λ z. grind (arith, z))

pub returns-in_default-tag-2 : goal.returns-in_default-tag-2
returns-in_default-tag-2 c = let f = c.in-Some.ensures in shape_null _ _ f.tag_is (λ z. omega (arith, f.tag_below, z)) (λ z. grind (arith, z)) (λ z. grind (arith, z)) (λ z. grind (arith, z)) (λ z. grind (arith, z)) (λ z. grind (arith, z)) (λ z. grind (arith, z)) (λ z. grind (arith, z)) (λ z. grind (arith, z)) (λ z. grind (arith, z))
