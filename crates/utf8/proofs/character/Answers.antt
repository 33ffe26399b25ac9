-- `utf8::character` meets its contract: at each arm the byte is from one number to another between which the table does not change.
-- Assumes nothing.
use mathlib.Core.Path.{refl}
use native.Mathlib.Omega.{arith}
use Rattle.utf8.specs.Utf8.{forms}
use Rattle.utf8.proofs.Places.{leaves, stays, refused}
use Rattle.utf8.proofs.character.Goals as goal

pub returns-in-224 : goal.returns-in-224
unfolding forms
returns-in-224 c = leaves c.args.first c.args.rest.now 0xE0 0xE0 refl (omega arith) (omega arith) (λ t. t.now) _ _ refl c.ranged.ensures

pub returns-in-237 : goal.returns-in-237
unfolding forms
returns-in-237 c = leaves c.args.first c.args.rest.now 0xED 0xED refl (omega arith) (omega arith) (λ t. t.now) _ _ refl c.ranged-in-237.ensures

pub returns-in-240 : goal.returns-in-240
unfolding forms
returns-in-240 c = leaves c.args.first c.args.rest.now 0xF0 0xF0 refl (omega arith) (omega arith) (λ t. t.now) _ _ refl c.ranged-in-240.ensures

pub returns-in-244 : goal.returns-in-244
unfolding forms
returns-in-244 c = leaves c.args.first c.args.rest.now 0xF4 0xF4 refl (omega arith) (omega arith) (λ t. t.now) _ _ refl c.ranged-in-244.ensures

pub returns-in-194-to-223 : goal.returns-in-194-to-223
unfolding forms
returns-in-194-to-223 c = leaves c.args.first c.args.rest.now 0xC2 0xDF refl (omega arith) (omega arith) (λ t. t.now) _ _ refl c.tails.ensures

pub returns-in-225-to-236 : goal.returns-in-225-to-236
unfolding forms
returns-in-225-to-236 c = leaves c.args.first c.args.rest.now 0xE1 0xEC refl (omega arith) (omega arith) (λ t. t.now) _ _ refl c.tails-in-225-to-236.ensures

pub returns-in-238-to-239 : goal.returns-in-238-to-239
unfolding forms
returns-in-238-to-239 c = leaves c.args.first c.args.rest.now 0xEE 0xEF refl (omega arith) (omega arith) (λ t. t.now) _ _ refl c.tails-in-238-to-239.ensures

pub returns-in-241-to-243 : goal.returns-in-241-to-243
unfolding forms
returns-in-241-to-243 c = leaves c.args.first c.args.rest.now 0xF1 0xF3 refl (omega arith) (omega arith) (λ t. t.now) _ _ refl c.tails-in-241-to-243.ensures

pub returns-in-0-to-127 : goal.returns-in-0-to-127
unfolding forms
returns-in-0-to-127 c = stays c.args.first c.args.rest.now 0x00 0x7F refl (omega arith) (omega arith) refl

pub returns-in-128-to-193 : goal.returns-in-128-to-193
unfolding forms
returns-in-128-to-193 c = refused c.args.first c.args.rest.now 0x80 0xC1 refl (omega arith) (omega arith) refl

pub returns-in-245-to-255 : goal.returns-in-245-to-255
unfolding forms
returns-in-245-to-255 c = refused c.args.first c.args.rest.now 0xF5 0xFF refl (omega arith) (omega arith) refl
