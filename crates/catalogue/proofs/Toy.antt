-- What `Given` asks can be had: a grammar in which a record and a call are one byte each, the number. And calls with their answers, by
-- computation. Assumes nothing.
use Prim.Native.Nat.{ℕ, suc, ◌+◌, ◌-◌, ◌%◌, ◌<◌}
use mathlib.Core.Path.{◌≡◌, refl, ap, ap₂}
use mathlib.Core.Bool.{Bool, true, ◌&&◌}
use mathlib.Core.List.{List, [], ◌∷◌, ◌++◌}
use native.Mathlib.Omega.{arith}
use lib.Dec.{eqb}
use lib.ListN.{length, replicate}
use Rattle.field.specs.Bytes.{Bytes, AllBytes, pick}
use Rattle.field.specs.Number.{big_endian, number_from}
use Rattle.catalogue.specs.Page.{Body, Page, Request, A13, A14, Given}
use Rattle.catalogue.specs.Catalogue.{page_then, row, size, row_size, build, add, all_zero, page_in, page_right, read_page, read_row, present, names_differ, no_name_twice, read_catalogue}
use Rattle.catalogue.specs.Shares.{Shares, total, each, shares_right, used, unused, but}
use Rattle.catalogue.specs.Calls.{unless, room, arrival, without, leaving, Call, arrives, leaves, called, judged, outcome, number, left_by, answer, after_call, after_calls}

-- numbers of one byte, raised and lowered
moved : ℕ → Bytes → Bytes
moved n [] = []
moved n (c ∷ b) = ((c + n) % 256) ∷ moved n b

-- 1 up to the count
counts : ℕ → Bytes → Bool
counts n [] = true
counts n (c ∷ b) = eqb c n && counts (suc n) b

length_moved : (n : ℕ) (b : Bytes) → length (moved n b) ≡ length b
unfolding moved
length_moved n [] = refl
length_moved n (c ∷ b) = ap suc (length_moved n b)

all_moved : (n : ℕ) (b : Bytes) → AllBytes (moved n b)
unfolding moved AllBytes
all_moved n [] = tt
all_moved n (c ∷ b) = let l : (c + n) % 256 < 256 = omega arith in (l, all_moved n b)

there_back : (n : ℕ) (b : Bytes) → AllBytes b → moved (256 - n % 256) (moved n b) ≡ b
unfolding moved AllBytes
there_back n [] a = refl
there_back n (c ∷ b) a =
    let l : c < 256 = a.0 in
    let e : ((c + n) % 256 + (256 - n % 256)) % 256 ≡ c = omega arith in
    ap₂ (λ (x : ℕ) (y : Bytes). x ∷ y) e (there_back n b a.1)

back_there : (n : ℕ) (b : Bytes) → AllBytes b → moved n (moved (256 - n % 256) b) ≡ b
unfolding moved AllBytes
back_there n [] a = refl
back_there n (c ∷ b) a =
    let l : c < 256 = a.0 in
    let e : ((c + (256 - n % 256)) % 256 + n) % 256 ≡ c = omega arith in
    ap₂ (λ (x : ℕ) (y : Bytes). x ∷ y) e (back_there n b a.1)

toy : Request → Given
toy q = record {
  format = record {
    request = q;
    judge = λ x. pick ((counts 1 x.templates && counts 1 x.page_out) && eqb (length x.templates) (length x.page_out)) 0 17;
    forms = λ x. length x.templates;
    up = λ n x. record { templates = moved n x.templates; page_out = moved n x.page_out };
    down = λ n x. record { templates = moved (256 - n % 256) x.templates; page_out = moved (256 - n % 256) x.page_out };
  };
  up_templates = λ n x. length_moved n x.templates;
  up_page_out = λ n x. length_moved n x.page_out;
  down_templates = λ n x. length_moved (256 - n % 256) x.templates;
  down_page_out = λ n x. length_moved (256 - n % 256) x.page_out;
  down_bytes = λ n x a. (all_moved (256 - n % 256) x.templates, all_moved (256 - n % 256) x.page_out);
  down_up = λ n x a j i. record { templates = there_back n x.templates a.0 i; page_out = there_back n x.page_out a.1 i };
  up_down = λ n x a j i. record { templates = back_there n x.templates a.0 i; page_out = back_there n x.page_out a.1 i };
}

-- ---- calls with their answers

body : Bytes → Bytes → Body
body t o = record { templates = t; page_out = o }

page : ℕ → ℕ → Bytes → Page
page x h b = record { name = x; house = h; body = body b b }

-- house 1 is guaranteed 20 bytes, house 2 16 bytes; no house may have more than 40
shares : Shares
shares = record { guarantee = λ h. pick (eqb h 1) 20 (pick (eqb h 2) 16 0); most = λ h. 40 }

after : List Call → Bytes
after cs = after_calls (toy A14).format shares cs (replicate 64 0)

two_pages : List Call
two_pages = arrives (page 7 1 (1 ∷ 2 ∷ [])) ∷ arrives (page 8 2 (1 ∷ [])) ∷ []

-- the second page's form 1 is form 3 of the catalogue
stand_together : after two_pages
    ≡ (0x97 ∷ 0 ∷ 0 ∷ 0 ∷ 7 ∷ 1 ∷ 0 ∷ 0 ∷ 0 ∷ 2 ∷ 0 ∷ 0 ∷ 0 ∷ 2 ∷ 1 ∷ 2 ∷ 1 ∷ 2 ∷ [])
    ++ ((0x97 ∷ 0 ∷ 0 ∷ 0 ∷ 8 ∷ 2 ∷ 0 ∷ 0 ∷ 0 ∷ 1 ∷ 0 ∷ 0 ∷ 0 ∷ 1 ∷ 3 ∷ 3 ∷ []) ++ replicate 30 0)
unfolding after two_pages page body shares toy moved counts after_calls outcome judged called arrival leaving unless room number left_by read_catalogue no_name_twice read_row read_page page_in page_right add all_zero present names_differ build row page_then size row_size shares_right total each used unused but big_endian number_from without
stand_together = refl

-- the first page left: the second closes up, and has its own numbers again
closed_up : after (two_pages ++ (leaves 7 ∷ []))
    ≡ (0x97 ∷ 0 ∷ 0 ∷ 0 ∷ 8 ∷ 2 ∷ 0 ∷ 0 ∷ 0 ∷ 1 ∷ 0 ∷ 0 ∷ 0 ∷ 1 ∷ 1 ∷ 1 ∷ []) ++ replicate 48 0
unfolding after two_pages page body shares toy moved counts after_calls outcome judged called arrival leaving unless room number left_by read_catalogue no_name_twice read_row read_page page_in page_right add all_zero present names_differ build row page_then size row_size shares_right total each used unused but big_endian number_from without
closed_up = refl

answers : List Call → Bytes → List ℕ
answers [] b = []
answers (c ∷ cs) b = answer (toy A14).format shares c b ∷ answers cs b

-- at the catalogue of two pages, and 30 bytes free, 2 of them guaranteed to house 1: a third house has room for 28
numbers : answers
    (arrives (page 9 3 (1 ∷ 2 ∷ 3 ∷ 4 ∷ 5 ∷ 6 ∷ 7 ∷ [])) ∷ arrives (page 9 3 (1 ∷ 2 ∷ 3 ∷ 4 ∷ 5 ∷ 6 ∷ 7 ∷ 8 ∷ [])) ∷ arrives (page 9 2 (1 ∷ 2 ∷ 3 ∷ 4 ∷ 5 ∷ 6 ∷ [])) ∷ arrives (page 8 3 [])
    ∷ arrives (page 8 17 []) ∷ arrives (page 9 0 []) ∷ arrives (page 8 17 (2 ∷ [])) ∷ leaves 8 ∷ leaves 9 ∷ [])
    (after two_pages)
    ≡ 0 ∷ 25 ∷ 24 ∷ 21 ∷ 26 ∷ 26 ∷ 17 ∷ 0 ∷ 22 ∷ []
unfolding answers after two_pages page body shares toy moved counts after_calls outcome judged called arrival leaving unless room number left_by read_catalogue no_name_twice read_row read_page page_in page_right add all_zero present names_differ build row page_then size row_size shares_right total each used unused but big_endian number_from without
numbers = refl

-- no row of pages: a byte that begins none, a house 17, a length too long, a number that is not the next, zeros and then more
no_rows : answers (leaves 7 ∷ []) (1 ∷ []) ++ (answers (leaves 7 ∷ []) (0x97 ∷ 0 ∷ 0 ∷ 0 ∷ 7 ∷ 17 ∷ 0 ∷ 0 ∷ 0 ∷ 0 ∷ 0 ∷ 0 ∷ 0 ∷ 0 ∷ [])
    ++ (answers (leaves 7 ∷ []) (0x97 ∷ 0 ∷ 0 ∷ 0 ∷ 7 ∷ 1 ∷ 0 ∷ 0 ∷ 0 ∷ 1 ∷ 0 ∷ 0 ∷ 0 ∷ 1 ∷ 1 ∷ [])
    ++ (answers (leaves 7 ∷ []) (0x97 ∷ 0 ∷ 0 ∷ 0 ∷ 7 ∷ 1 ∷ 0 ∷ 0 ∷ 0 ∷ 1 ∷ 0 ∷ 0 ∷ 0 ∷ 1 ∷ 2 ∷ 2 ∷ [])
    ++ answers (leaves 7 ∷ []) (0x97 ∷ 0 ∷ 0 ∷ 0 ∷ 7 ∷ 1 ∷ 0 ∷ 0 ∷ 0 ∷ 0 ∷ 0 ∷ 0 ∷ 0 ∷ 0 ∷ 0 ∷ 1 ∷ []))))
    ≡ 4 ∷ 4 ∷ 4 ∷ 4 ∷ 4 ∷ []
unfolding answers after two_pages page body shares toy moved counts after_calls outcome judged called arrival leaving unless room number left_by read_catalogue no_name_twice read_row read_page page_in page_right add all_zero present names_differ build row page_then size row_size shares_right total each used unused but big_endian number_from without
no_rows = refl

-- A13, without houses: a page of 15 bytes in 15 and in 14
fifteen : after_call (toy A13).format shares (arrives (page 7 0 (1 ∷ []))) (replicate 15 0) ≡ 0x97 ∷ 0 ∷ 0 ∷ 0 ∷ 7 ∷ 0 ∷ 0 ∷ 0 ∷ 1 ∷ 0 ∷ 0 ∷ 0 ∷ 1 ∷ 1 ∷ 1 ∷ []
unfolding page body shares toy moved counts outcome judged called arrival unless room number left_by read_catalogue no_name_twice read_row read_page page_in page_right add all_zero present names_differ build row page_then size row_size big_endian number_from
fifteen = refl

fourteen : answer (toy A13).format shares (arrives (page 7 0 (1 ∷ []))) (replicate 14 0) ≡ 23
unfolding page body shares toy moved counts outcome judged called arrival unless room number left_by read_catalogue no_name_twice read_row read_page page_in page_right add all_zero present names_differ build row page_then size row_size big_endian number_from
fourteen = refl
