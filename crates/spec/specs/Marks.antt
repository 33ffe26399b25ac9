-- The marks and the limits of document 01, on bytes: page, options, length of scratch, room in templates out and in page out; then what
-- the answer must be: number, templates, templates out, page out. Written by tools/marks.py. Assumes nothing: these are definitions.
use Rattle.std.specs.Prelude.{ℕ, ◌≡◌, List, [], ◌∷◌, ◌++◌, length, replicate}
use Rattle.field.specs.Bytes.{Bytes, ascii}
use Rattle.field.specs.Number.{big_endian}
use Rattle.spec.specs.Answer.{Outcome, refused, accepted, outcome, number}

-- an answer to be compared: a refusal writes nothing
pub record Reply : Type 0 where
  pub number : ℕ
  pub templates : ℕ
  pub templates_out : Bytes
  pub page_out : Bytes

unfoldable pub reply : Outcome → Reply
reply (refused n) = record { number = number (refused n); templates = 0; templates_out = []; page_out = [] }
reply (accepted w) = record { number = number (accepted w); templates = w.templates; templates_out = w.templates_out; page_out = w.page_out }

pub record Mark : Type 0 where
  pub page : Bytes
  pub options : Bytes
  pub scratch : ℕ
  pub templates_room : ℕ
  pub page_room : ℕ
  pub expected : Reply

-- a field
abbrev pub fld : ℕ → Bytes → Bytes
unfolding big_endian
fld t b = t ∷ (big_endian 2 (length b) [] ++ b)

abbrev pub mark : Bytes → Bytes → ℕ → ℕ → ℕ → ℕ → ℕ → Bytes → Bytes → Mark
mark p o d s r n f so po = record { page = p; options = o; scratch = d; templates_room = s; page_room = r; expected = record { number = n; templates = f; templates_out = so; page_out = po } }

unfoldable pub AllHold : List Mark → Type 0
AllHold [] = Unit {0}
AllHold (m ∷ ms) = (reply (outcome m.page m.options m.scratch m.templates_room m.page_room) ≡ m.expected) × AllHold ms

abbrev pub marks : List Mark
marks =
    -- K1 <br/>
    mark (fld 0x01 (fld 0x12 (fld 0x30 (fld 0x40 (ascii "br"))))) [] 65536 65536 65536 0 1 (fld 0x84 ((0 ∷ 0 ∷ 0 ∷ 1 ∷ []) ++ ((0 ∷ 0 ∷ []) ++ (fld 0x81 (ascii "<br>"))))) ((fld 0x82 ((fld 0x81 (ascii "react/jsx-runtime")) ++ (2 ∷ []))) ++ ((fld 0x83 []) ++ (fld 0x12 (fld 0x90 (0 ∷ 0 ∷ 0 ∷ 1 ∷ []))))) ∷
    -- K2 <i disabled={false}>B</i>
    mark (fld 0x01 (fld 0x12 (fld 0x30 ((fld 0x40 (ascii "i")) ++ ((fld 0x50 ((fld 0x40 (ascii "disabled")) ++ (fld 0x52 (fld 0x72 (0 ∷ []))))) ++ (fld 0x60 (ascii "B"))))))) [] 65536 65536 65536 0 1 (fld 0x84 ((0 ∷ 0 ∷ 0 ∷ 1 ∷ []) ++ ((0 ∷ 0 ∷ []) ++ (fld 0x81 (ascii "<i>B</i>"))))) ((fld 0x82 ((fld 0x81 (ascii "react/jsx-runtime")) ++ (2 ∷ []))) ++ ((fld 0x83 []) ++ (fld 0x12 (fld 0x90 (0 ∷ 0 ∷ 0 ∷ 1 ∷ []))))) ∷
    -- K3 <i disabled={f}/>
    mark (fld 0x01 (fld 0x12 (fld 0x30 ((fld 0x40 (ascii "i")) ++ (fld 0x50 ((fld 0x40 (ascii "disabled")) ++ (fld 0x52 (fld 0x79 (fld 0x20 (ascii "f")))))))))) [] 65536 65536 65536 0 1 (fld 0x84 ((0 ∷ 0 ∷ 0 ∷ 1 ∷ []) ++ ((0 ∷ 1 ∷ 1 ∷ []) ++ ((fld 0x81 (ascii "<i ")) ++ (fld 0x81 (ascii "></i>")))))) ((fld 0x82 ((fld 0x81 (ascii "react/jsx-runtime")) ++ (2 ∷ []))) ++ ((fld 0x83 []) ++ (fld 0x12 (fld 0x90 ((0 ∷ 0 ∷ 0 ∷ 1 ∷ []) ++ (fld 0x93 ((fld 0x79 (fld 0x20 (ascii "f"))) ++ (fld 0x81 (ascii "disabled"))))))))) ∷
    -- K4 <p hidden/>
    mark (fld 0x01 (fld 0x12 (fld 0x30 ((fld 0x40 (ascii "p")) ++ (fld 0x50 (fld 0x40 (ascii "hidden"))))))) [] 65536 65536 65536 0 1 (fld 0x84 ((0 ∷ 0 ∷ 0 ∷ 1 ∷ []) ++ ((0 ∷ 1 ∷ 1 ∷ []) ++ ((fld 0x81 (ascii "<p ")) ++ (fld 0x81 (ascii "></p>")))))) ((fld 0x82 ((fld 0x81 (ascii "react/jsx-runtime")) ++ (6 ∷ []))) ++ ((fld 0x83 []) ++ (fld 0x12 (fld 0x90 ((0 ∷ 0 ∷ 0 ∷ 1 ∷ []) ++ (fld 0x91 ((fld 0x81 (ascii "hidden")) ++ (fld 0x72 (1 ∷ []))))))))) ∷
    -- K5 <b key={"7"}/>
    mark (fld 0x01 (fld 0x12 (fld 0x30 ((fld 0x40 (ascii "b")) ++ (fld 0x50 ((fld 0x40 (ascii "key")) ++ (fld 0x52 (fld 0x70 (ascii "7"))))))))) [] 65536 65536 65536 0 1 (fld 0x84 ((0 ∷ 0 ∷ 0 ∷ 1 ∷ []) ++ ((0 ∷ 0 ∷ []) ++ (fld 0x81 (ascii "<b key=\"7\"></b>"))))) ((fld 0x82 ((fld 0x81 (ascii "react/jsx-runtime")) ++ (2 ∷ []))) ++ ((fld 0x83 []) ++ (fld 0x12 (fld 0x90 (0 ∷ 0 ∷ 0 ∷ 1 ∷ []))))) ∷
    -- K5 <b key="7"/>
    mark (fld 0x01 (fld 0x12 (fld 0x30 ((fld 0x40 (ascii "b")) ++ (fld 0x50 ((fld 0x40 (ascii "key")) ++ (fld 0x51 (ascii "7")))))))) [] 65536 65536 65536 0 1 (fld 0x84 ((0 ∷ 0 ∷ 0 ∷ 1 ∷ []) ++ ((0 ∷ 1 ∷ 1 ∷ []) ++ ((fld 0x81 (ascii "<b ")) ++ (fld 0x81 (ascii "></b>")))))) ((fld 0x82 ((fld 0x81 (ascii "react/jsx-runtime")) ++ (6 ∷ []))) ++ ((fld 0x83 []) ++ (fld 0x12 (fld 0x90 ((0 ∷ 0 ∷ 0 ∷ 1 ∷ []) ++ (fld 0x91 ((fld 0x81 (ascii "key")) ++ (fld 0x70 (ascii "7"))))))))) ∷
    -- K6 <div><Foo><i/></Foo></div>
    mark (fld 0x01 (fld 0x12 (fld 0x30 ((fld 0x40 (ascii "div")) ++ (fld 0x30 ((fld 0x40 (ascii "Foo")) ++ (fld 0x30 (fld 0x40 (ascii "i"))))))))) [] 65536 65536 65536 0 2 ((fld 0x84 ((0 ∷ 0 ∷ 0 ∷ 2 ∷ []) ++ ((0 ∷ 0 ∷ []) ++ (fld 0x81 (ascii "<i></i>"))))) ++ (fld 0x84 ((0 ∷ 0 ∷ 0 ∷ 1 ∷ []) ++ ((0 ∷ 1 ∷ 2 ∷ []) ++ ((fld 0x81 (ascii "<div>")) ++ (fld 0x81 (ascii "</div>"))))))) ((fld 0x82 ((fld 0x81 (ascii "react/jsx-runtime")) ++ (3 ∷ []))) ++ ((fld 0x83 []) ++ (fld 0x12 (fld 0x90 ((0 ∷ 0 ∷ 0 ∷ 1 ∷ []) ++ (fld 0x94 ((fld 0x40 (ascii "Foo")) ++ (fld 0x95 (fld 0x96 ((fld 0x81 (ascii "children")) ++ (fld 0x90 (0 ∷ 0 ∷ 0 ∷ 2 ∷ [])))))))))))) ∷
    -- K7 <></>
    mark (fld 0x01 (fld 0x12 (fld 0x31 []))) [] 65536 65536 65536 0 0 [] (fld 0x12 (fld 0x73 [])) ∷
    -- K7 <><></></>
    mark (fld 0x01 (fld 0x12 (fld 0x31 (fld 0x31 [])))) [] 65536 65536 65536 10 0 [] [] ∷
    -- K8 <Foo>a{"<"}<i/></Foo>
    mark (fld 0x01 (fld 0x12 (fld 0x30 ((fld 0x40 (ascii "Foo")) ++ ((fld 0x60 (ascii "a")) ++ ((fld 0x52 (fld 0x70 (ascii "<"))) ++ (fld 0x30 (fld 0x40 (ascii "i"))))))))) [] 65536 65536 65536 0 1 (fld 0x84 ((0 ∷ 0 ∷ 0 ∷ 1 ∷ []) ++ ((0 ∷ 0 ∷ []) ++ (fld 0x81 (ascii "a&amp;lt;<i></i>"))))) ((fld 0x82 ((fld 0x81 (ascii "react/jsx-runtime")) ++ (3 ∷ []))) ++ ((fld 0x83 []) ++ (fld 0x12 (fld 0x94 ((fld 0x40 (ascii "Foo")) ++ (fld 0x95 (fld 0x96 ((fld 0x81 (ascii "children")) ++ (fld 0x90 (0 ∷ 0 ∷ 0 ∷ 1 ∷ [])))))))))) ∷
    -- K9 <a b={-0}/>
    mark (fld 0x01 (fld 0x12 (fld 0x30 ((fld 0x40 (ascii "a")) ++ (fld 0x50 ((fld 0x40 (ascii "b")) ++ (fld 0x52 (fld 0x75 (0 ∷ 0 ∷ 0 ∷ 0 ∷ 0 ∷ 0 ∷ 0 ∷ 0 ∷ []))))))))) [] 65536 65536 65536 0 1 (fld 0x84 ((0 ∷ 0 ∷ 0 ∷ 1 ∷ []) ++ ((0 ∷ 0 ∷ []) ++ (fld 0x81 (ascii "<a b=\"-0\"></a>"))))) ((fld 0x82 ((fld 0x81 (ascii "react/jsx-runtime")) ++ (2 ∷ []))) ++ ((fld 0x83 []) ++ (fld 0x12 (fld 0x90 (0 ∷ 0 ∷ 0 ∷ 1 ∷ []))))) ∷
    -- K10 <a b={-0}/>, b in 03
    mark (fld 0x01 (fld 0x12 (fld 0x30 ((fld 0x40 (ascii "a")) ++ (fld 0x50 ((fld 0x40 (ascii "b")) ++ (fld 0x52 (fld 0x75 (0 ∷ 0 ∷ 0 ∷ 0 ∷ 0 ∷ 0 ∷ 0 ∷ 0 ∷ []))))))))) (fld 0x03 (fld 0x20 (ascii "b"))) 65536 65536 65536 0 1 (fld 0x84 ((0 ∷ 0 ∷ 0 ∷ 1 ∷ []) ++ ((0 ∷ 1 ∷ 1 ∷ []) ++ ((fld 0x81 (ascii "<a ")) ++ (fld 0x81 (ascii "></a>")))))) ((fld 0x82 ((fld 0x81 (ascii "react/jsx-runtime")) ++ (6 ∷ []))) ++ ((fld 0x83 []) ++ (fld 0x12 (fld 0x90 ((0 ∷ 0 ∷ 0 ∷ 1 ∷ []) ++ (fld 0x91 ((fld 0x81 (ascii "b")) ++ (fld 0x75 (0 ∷ 0 ∷ 0 ∷ 0 ∷ 0 ∷ 0 ∷ 0 ∷ 0 ∷ []))))))))) ∷
    -- <p class={x}/>, class in 03
    mark (fld 0x01 (fld 0x12 (fld 0x30 ((fld 0x40 (ascii "p")) ++ (fld 0x50 ((fld 0x40 (ascii "class")) ++ (fld 0x52 (fld 0x79 (fld 0x20 (ascii "x")))))))))) (fld 0x03 (fld 0x20 (ascii "class"))) 65536 65536 65536 0 1 (fld 0x84 ((0 ∷ 0 ∷ 0 ∷ 1 ∷ []) ++ ((0 ∷ 1 ∷ 1 ∷ []) ++ ((fld 0x81 (ascii "<p ")) ++ (fld 0x81 (ascii "></p>")))))) ((fld 0x82 ((fld 0x81 (ascii "react/jsx-runtime")) ++ (6 ∷ []))) ++ ((fld 0x83 []) ++ (fld 0x12 (fld 0x90 ((0 ∷ 0 ∷ 0 ∷ 1 ∷ []) ++ (fld 0x91 ((fld 0x81 (ascii "class")) ++ (fld 0x79 (fld 0x20 (ascii "x")))))))))) ∷
    -- <p class={}/>, class in 03
    mark (fld 0x01 (fld 0x12 (fld 0x30 ((fld 0x40 (ascii "p")) ++ (fld 0x50 ((fld 0x40 (ascii "class")) ++ (fld 0x52 []))))))) (fld 0x03 (fld 0x20 (ascii "class"))) 65536 65536 65536 0 1 (fld 0x84 ((0 ∷ 0 ∷ 0 ∷ 1 ∷ []) ++ ((0 ∷ 1 ∷ 1 ∷ []) ++ ((fld 0x81 (ascii "<p ")) ++ (fld 0x81 (ascii "></p>")))))) ((fld 0x82 ((fld 0x81 (ascii "react/jsx-runtime")) ++ (6 ∷ []))) ++ ((fld 0x83 []) ++ (fld 0x12 (fld 0x90 ((0 ∷ 0 ∷ 0 ∷ 1 ∷ []) ++ (fld 0x91 ((fld 0x81 (ascii "class")) ++ (fld 0x73 [])))))))) ∷
    -- <p class={<i/>}/>, class in 03
    mark (fld 0x01 (fld 0x12 (fld 0x30 ((fld 0x40 (ascii "p")) ++ (fld 0x50 ((fld 0x40 (ascii "class")) ++ (fld 0x52 (fld 0x30 (fld 0x40 (ascii "i")))))))))) (fld 0x03 (fld 0x20 (ascii "class"))) 65536 65536 65536 0 2 ((fld 0x84 ((0 ∷ 0 ∷ 0 ∷ 1 ∷ []) ++ ((0 ∷ 1 ∷ 1 ∷ []) ++ ((fld 0x81 (ascii "<p ")) ++ (fld 0x81 (ascii "></p>")))))) ++ (fld 0x84 ((0 ∷ 0 ∷ 0 ∷ 2 ∷ []) ++ ((0 ∷ 0 ∷ []) ++ (fld 0x81 (ascii "<i></i>")))))) ((fld 0x82 ((fld 0x81 (ascii "react/jsx-runtime")) ++ (6 ∷ []))) ++ ((fld 0x83 []) ++ (fld 0x12 (fld 0x90 ((0 ∷ 0 ∷ 0 ∷ 1 ∷ []) ++ (fld 0x91 ((fld 0x81 (ascii "class")) ++ (fld 0x90 (0 ∷ 0 ∷ 0 ∷ 2 ∷ []))))))))) ∷
    -- <p class={c}>{n}</p>, class in 03
    mark (fld 0x01 (fld 0x12 (fld 0x30 ((fld 0x40 (ascii "p")) ++ ((fld 0x50 ((fld 0x40 (ascii "class")) ++ (fld 0x52 (fld 0x79 (fld 0x20 (ascii "c")))))) ++ (fld 0x52 (fld 0x79 (fld 0x20 (ascii "n"))))))))) (fld 0x03 (fld 0x20 (ascii "class"))) 65536 65536 65536 0 1 (fld 0x84 ((0 ∷ 0 ∷ 0 ∷ 1 ∷ []) ++ ((0 ∷ 2 ∷ 1 ∷ 2 ∷ []) ++ ((fld 0x81 (ascii "<p ")) ++ ((fld 0x81 (ascii ">")) ++ (fld 0x81 (ascii "</p>"))))))) ((fld 0x82 ((fld 0x81 (ascii "react/jsx-runtime")) ++ (14 ∷ []))) ++ ((fld 0x83 []) ++ (fld 0x12 (fld 0x90 ((0 ∷ 0 ∷ 0 ∷ 1 ∷ []) ++ ((fld 0x91 ((fld 0x81 (ascii "class")) ++ (fld 0x79 (fld 0x20 (ascii "c"))))) ++ (fld 0x92 (fld 0x79 (fld 0x20 (ascii "n")))))))))) ∷
    -- <p>{n}<i disabled={f}/></p>
    mark (fld 0x01 (fld 0x12 (fld 0x30 ((fld 0x40 (ascii "p")) ++ ((fld 0x52 (fld 0x79 (fld 0x20 (ascii "n")))) ++ (fld 0x30 ((fld 0x40 (ascii "i")) ++ (fld 0x50 ((fld 0x40 (ascii "disabled")) ++ (fld 0x52 (fld 0x79 (fld 0x20 (ascii "f"))))))))))))) [] 65536 65536 65536 0 1 (fld 0x84 ((0 ∷ 0 ∷ 0 ∷ 1 ∷ []) ++ ((0 ∷ 2 ∷ 2 ∷ 1 ∷ []) ++ ((fld 0x81 (ascii "<p>")) ++ ((fld 0x81 (ascii "<i ")) ++ (fld 0x81 (ascii "></i></p>"))))))) ((fld 0x82 ((fld 0x81 (ascii "react/jsx-runtime")) ++ (10 ∷ []))) ++ ((fld 0x83 []) ++ (fld 0x12 (fld 0x90 ((0 ∷ 0 ∷ 0 ∷ 1 ∷ []) ++ ((fld 0x92 (fld 0x79 (fld 0x20 (ascii "n")))) ++ (fld 0x93 ((fld 0x79 (fld 0x20 (ascii "f"))) ++ (fld 0x81 (ascii "disabled")))))))))) ∷
    -- const a = <p class="t">Hi {n}</p>;
    mark (fld 0x01 (fld 0x12 ((fld 0x20 (ascii "const a = ")) ++ ((fld 0x30 ((fld 0x40 (ascii "p")) ++ ((fld 0x50 ((fld 0x40 (ascii "class")) ++ (fld 0x51 (ascii "t")))) ++ ((fld 0x60 (ascii "Hi ")) ++ (fld 0x52 (fld 0x79 (fld 0x20 (ascii "n")))))))) ++ (fld 0x20 (ascii ";")))))) [] 65536 65536 65536 0 1 (fld 0x84 ((0 ∷ 0 ∷ 0 ∷ 1 ∷ []) ++ ((0 ∷ 1 ∷ 2 ∷ []) ++ ((fld 0x81 (ascii "<p class=\"t\">Hi ")) ++ (fld 0x81 (ascii "</p>")))))) ((fld 0x82 ((fld 0x81 (ascii "react/jsx-runtime")) ++ (10 ∷ []))) ++ ((fld 0x83 []) ++ (fld 0x12 ((fld 0x20 (ascii "const a = ")) ++ ((fld 0x90 ((0 ∷ 0 ∷ 0 ∷ 1 ∷ []) ++ (fld 0x92 (fld 0x79 (fld 0x20 (ascii "n")))))) ++ (fld 0x20 (ascii ";"))))))) ∷
    -- 83 before the first 10 or 12
    mark (fld 0x01 ((fld 0x11 (fld 0x20 (ascii "import"))) ++ (fld 0x10 (fld 0x30 (fld 0x40 (ascii "br")))))) [] 65536 65536 65536 0 1 (fld 0x84 ((0 ∷ 0 ∷ 0 ∷ 1 ∷ []) ++ ((0 ∷ 0 ∷ []) ++ (fld 0x81 (ascii "<br>"))))) ((fld 0x82 ((fld 0x81 (ascii "react/jsx-runtime")) ++ (2 ∷ []))) ++ ((fld 0x11 (fld 0x20 (ascii "import"))) ++ ((fld 0x83 []) ++ (fld 0x10 (fld 0x90 (0 ∷ 0 ∷ 0 ∷ 1 ∷ [])))))) ∷
    -- no 10 and no 12: 83 first
    mark (fld 0x01 ((fld 0x13 []) ++ (fld 0x11 (fld 0x30 (fld 0x40 (ascii "br")))))) [] 65536 65536 65536 0 1 (fld 0x84 ((0 ∷ 0 ∷ 0 ∷ 1 ∷ []) ++ ((0 ∷ 0 ∷ []) ++ (fld 0x81 (ascii "<br>"))))) ((fld 0x82 ((fld 0x81 (ascii "react/jsx-runtime")) ++ (2 ∷ []))) ++ ((fld 0x83 []) ++ ((fld 0x13 []) ++ (fld 0x11 (fld 0x90 (0 ∷ 0 ∷ 0 ∷ 1 ∷ [])))))) ∷
    -- depth 48
    mark (fld 0x01 (fld 0x12 (fld 0x30 ((fld 0x40 (ascii "a")) ++ (fld 0x30 ((fld 0x40 (ascii "a")) ++ (fld 0x30 ((fld 0x40 (ascii "a")) ++ (fld 0x30 ((fld 0x40 (ascii "a")) ++ (fld 0x30 ((fld 0x40 (ascii "a")) ++ (fld 0x30 ((fld 0x40 (ascii "a")) ++ (fld 0x30 ((fld 0x40 (ascii "a")) ++ (fld 0x30 ((fld 0x40 (ascii "a")) ++ (fld 0x30 ((fld 0x40 (ascii "a")) ++ (fld 0x30 ((fld 0x40 (ascii "a")) ++ (fld 0x30 ((fld 0x40 (ascii "a")) ++ (fld 0x30 ((fld 0x40 (ascii "a")) ++ (fld 0x30 ((fld 0x40 (ascii "a")) ++ (fld 0x30 ((fld 0x40 (ascii "a")) ++ (fld 0x30 ((fld 0x40 (ascii "a")) ++ (fld 0x30 ((fld 0x40 (ascii "a")) ++ (fld 0x30 ((fld 0x40 (ascii "a")) ++ (fld 0x30 ((fld 0x40 (ascii "a")) ++ (fld 0x30 ((fld 0x40 (ascii "a")) ++ (fld 0x30 ((fld 0x40 (ascii "a")) ++ (fld 0x30 ((fld 0x40 (ascii "a")) ++ (fld 0x30 ((fld 0x40 (ascii "a")) ++ (fld 0x30 ((fld 0x40 (ascii "a")) ++ (fld 0x30 ((fld 0x40 (ascii "a")) ++ (fld 0x30 ((fld 0x40 (ascii "a")) ++ (fld 0x30 ((fld 0x40 (ascii "a")) ++ (fld 0x30 ((fld 0x40 (ascii "a")) ++ (fld 0x30 ((fld 0x40 (ascii "a")) ++ (fld 0x30 ((fld 0x40 (ascii "a")) ++ (fld 0x30 ((fld 0x40 (ascii "a")) ++ (fld 0x30 ((fld 0x40 (ascii "a")) ++ (fld 0x30 ((fld 0x40 (ascii "a")) ++ (fld 0x30 ((fld 0x40 (ascii "a")) ++ (fld 0x30 ((fld 0x40 (ascii "a")) ++ (fld 0x30 ((fld 0x40 (ascii "a")) ++ (fld 0x30 ((fld 0x40 (ascii "a")) ++ (fld 0x30 ((fld 0x40 (ascii "a")) ++ (fld 0x30 ((fld 0x40 (ascii "a")) ++ (fld 0x30 ((fld 0x40 (ascii "a")) ++ (fld 0x30 ((fld 0x40 (ascii "a")) ++ (fld 0x30 ((fld 0x40 (ascii "a")) ++ (fld 0x30 ((fld 0x40 (ascii "a")) ++ (fld 0x30 ((fld 0x40 (ascii "a")) ++ (fld 0x30 ((fld 0x40 (ascii "a")) ++ (fld 0x30 (fld 0x40 (ascii "a"))))))))))))))))))))))))))))))))))))))))))))))))))))))))))))))))))))))))))))))))))))))))))))) [] 65536 65536 65536 0 1 (fld 0x84 ((0 ∷ 0 ∷ 0 ∷ 1 ∷ []) ++ ((0 ∷ 0 ∷ []) ++ (fld 0x81 (ascii "<a><a><a><a><a><a><a><a><a><a><a><a><a><a><a><a><a><a><a><a><a><a><a><a><a><a><a><a><a><a><a><a><a><a><a><a><a><a><a><a><a><a><a><a><a></a></a></a></a></a></a></a></a></a></a></a></a></a></a></a></a></a></a></a></a></a></a></a></a></a></a></a></a></a></a></a></a></a></a></a></a></a></a></a></a></a></a></a></a></a>"))))) ((fld 0x82 ((fld 0x81 (ascii "react/jsx-runtime")) ++ (2 ∷ []))) ++ ((fld 0x83 []) ++ (fld 0x12 (fld 0x90 (0 ∷ 0 ∷ 0 ∷ 1 ∷ []))))) ∷
    -- depth 49
    mark (fld 0x01 (fld 0x12 (fld 0x30 ((fld 0x40 (ascii "a")) ++ (fld 0x30 ((fld 0x40 (ascii "a")) ++ (fld 0x30 ((fld 0x40 (ascii "a")) ++ (fld 0x30 ((fld 0x40 (ascii "a")) ++ (fld 0x30 ((fld 0x40 (ascii "a")) ++ (fld 0x30 ((fld 0x40 (ascii "a")) ++ (fld 0x30 ((fld 0x40 (ascii "a")) ++ (fld 0x30 ((fld 0x40 (ascii "a")) ++ (fld 0x30 ((fld 0x40 (ascii "a")) ++ (fld 0x30 ((fld 0x40 (ascii "a")) ++ (fld 0x30 ((fld 0x40 (ascii "a")) ++ (fld 0x30 ((fld 0x40 (ascii "a")) ++ (fld 0x30 ((fld 0x40 (ascii "a")) ++ (fld 0x30 ((fld 0x40 (ascii "a")) ++ (fld 0x30 ((fld 0x40 (ascii "a")) ++ (fld 0x30 ((fld 0x40 (ascii "a")) ++ (fld 0x30 ((fld 0x40 (ascii "a")) ++ (fld 0x30 ((fld 0x40 (ascii "a")) ++ (fld 0x30 ((fld 0x40 (ascii "a")) ++ (fld 0x30 ((fld 0x40 (ascii "a")) ++ (fld 0x30 ((fld 0x40 (ascii "a")) ++ (fld 0x30 ((fld 0x40 (ascii "a")) ++ (fld 0x30 ((fld 0x40 (ascii "a")) ++ (fld 0x30 ((fld 0x40 (ascii "a")) ++ (fld 0x30 ((fld 0x40 (ascii "a")) ++ (fld 0x30 ((fld 0x40 (ascii "a")) ++ (fld 0x30 ((fld 0x40 (ascii "a")) ++ (fld 0x30 ((fld 0x40 (ascii "a")) ++ (fld 0x30 ((fld 0x40 (ascii "a")) ++ (fld 0x30 ((fld 0x40 (ascii "a")) ++ (fld 0x30 ((fld 0x40 (ascii "a")) ++ (fld 0x30 ((fld 0x40 (ascii "a")) ++ (fld 0x30 ((fld 0x40 (ascii "a")) ++ (fld 0x30 ((fld 0x40 (ascii "a")) ++ (fld 0x30 ((fld 0x40 (ascii "a")) ++ (fld 0x30 ((fld 0x40 (ascii "a")) ++ (fld 0x30 ((fld 0x40 (ascii "a")) ++ (fld 0x30 ((fld 0x40 (ascii "a")) ++ (fld 0x30 ((fld 0x40 (ascii "a")) ++ (fld 0x30 ((fld 0x40 (ascii "a")) ++ (fld 0x30 ((fld 0x40 (ascii "a")) ++ (fld 0x30 ((fld 0x40 (ascii "a")) ++ (fld 0x30 ((fld 0x40 (ascii "a")) ++ (fld 0x30 ((fld 0x40 (ascii "a")) ++ (fld 0x30 ((fld 0x40 (ascii "a")) ++ (fld 0x30 (fld 0x40 (ascii "a"))))))))))))))))))))))))))))))))))))))))))))))))))))))))))))))))))))))))))))))))))))))))))))))) [] 65536 65536 65536 8 0 [] [] ∷
    -- 9,007,199,254,740,991
    mark (fld 0x01 (fld 0x12 (fld 0x30 ((fld 0x40 (ascii "a")) ++ (fld 0x50 ((fld 0x40 (ascii "b")) ++ (fld 0x52 (fld 0x71 (0 ∷ 31 ∷ 255 ∷ 255 ∷ 255 ∷ 255 ∷ 255 ∷ 255 ∷ []))))))))) [] 65536 65536 65536 0 1 (fld 0x84 ((0 ∷ 0 ∷ 0 ∷ 1 ∷ []) ++ ((0 ∷ 0 ∷ []) ++ (fld 0x81 (ascii "<a b=\"9007199254740991\"></a>"))))) ((fld 0x82 ((fld 0x81 (ascii "react/jsx-runtime")) ++ (2 ∷ []))) ++ ((fld 0x83 []) ++ (fld 0x12 (fld 0x90 (0 ∷ 0 ∷ 0 ∷ 1 ∷ []))))) ∷
    -- one more
    mark (fld 0x01 (fld 0x12 (fld 0x30 ((fld 0x40 (ascii "a")) ++ (fld 0x50 ((fld 0x40 (ascii "b")) ++ (fld 0x52 (fld 0x71 (0 ∷ 32 ∷ 0 ∷ 0 ∷ 0 ∷ 0 ∷ 0 ∷ 0 ∷ []))))))))) [] 65536 65536 65536 7 0 [] [] ∷
    -- 12.50
    mark (fld 0x01 (fld 0x12 (fld 0x30 ((fld 0x40 (ascii "a")) ++ (fld 0x50 ((fld 0x40 (ascii "b")) ++ (fld 0x52 (fld 0x7a (0 ∷ 0 ∷ 0 ∷ 0 ∷ 0 ∷ 0 ∷ 4 ∷ 226 ∷ 2 ∷ []))))))))) [] 65536 65536 65536 0 1 (fld 0x84 ((0 ∷ 0 ∷ 0 ∷ 1 ∷ []) ++ ((0 ∷ 0 ∷ []) ++ (fld 0x81 (ascii "<a b=\"12.5\"></a>"))))) ((fld 0x82 ((fld 0x81 (ascii "react/jsx-runtime")) ++ (2 ∷ []))) ++ ((fld 0x83 []) ++ (fld 0x12 (fld 0x90 (0 ∷ 0 ∷ 0 ∷ 1 ∷ []))))) ∷
    -- 0.000000000000001
    mark (fld 0x01 (fld 0x12 (fld 0x30 ((fld 0x40 (ascii "a")) ++ (fld 0x50 ((fld 0x40 (ascii "b")) ++ (fld 0x52 (fld 0x7a (0 ∷ 0 ∷ 0 ∷ 0 ∷ 0 ∷ 0 ∷ 0 ∷ 1 ∷ 15 ∷ []))))))))) [] 65536 65536 65536 0 1 (fld 0x84 ((0 ∷ 0 ∷ 0 ∷ 1 ∷ []) ++ ((0 ∷ 0 ∷ []) ++ (fld 0x81 (ascii "<a b=\"0.000000000000001\"></a>"))))) ((fld 0x82 ((fld 0x81 (ascii "react/jsx-runtime")) ++ (2 ∷ []))) ++ ((fld 0x83 []) ++ (fld 0x12 (fld 0x90 (0 ∷ 0 ∷ 0 ∷ 1 ∷ []))))) ∷
    -- 999,999,999,999,999 with no place
    mark (fld 0x01 (fld 0x12 (fld 0x30 ((fld 0x40 (ascii "a")) ++ (fld 0x50 ((fld 0x40 (ascii "b")) ++ (fld 0x52 (fld 0x7a (0 ∷ 3 ∷ 141 ∷ 126 ∷ 164 ∷ 198 ∷ 127 ∷ 255 ∷ 0 ∷ []))))))))) [] 65536 65536 65536 0 1 (fld 0x84 ((0 ∷ 0 ∷ 0 ∷ 1 ∷ []) ++ ((0 ∷ 0 ∷ []) ++ (fld 0x81 (ascii "<a b=\"999999999999999\"></a>"))))) ((fld 0x82 ((fld 0x81 (ascii "react/jsx-runtime")) ++ (2 ∷ []))) ++ ((fld 0x83 []) ++ (fld 0x12 (fld 0x90 (0 ∷ 0 ∷ 0 ∷ 1 ∷ []))))) ∷
    -- 0.999999999999999
    mark (fld 0x01 (fld 0x12 (fld 0x30 ((fld 0x40 (ascii "a")) ++ (fld 0x50 ((fld 0x40 (ascii "b")) ++ (fld 0x52 (fld 0x7a (0 ∷ 3 ∷ 141 ∷ 126 ∷ 164 ∷ 198 ∷ 127 ∷ 255 ∷ 15 ∷ []))))))))) [] 65536 65536 65536 0 1 (fld 0x84 ((0 ∷ 0 ∷ 0 ∷ 1 ∷ []) ++ ((0 ∷ 0 ∷ []) ++ (fld 0x81 (ascii "<a b=\"0.999999999999999\"></a>"))))) ((fld 0x82 ((fld 0x81 (ascii "react/jsx-runtime")) ++ (2 ∷ []))) ++ ((fld 0x83 []) ++ (fld 0x12 (fld 0x90 (0 ∷ 0 ∷ 0 ∷ 1 ∷ []))))) ∷
    -- 0.00
    mark (fld 0x01 (fld 0x12 (fld 0x30 ((fld 0x40 (ascii "a")) ++ (fld 0x50 ((fld 0x40 (ascii "b")) ++ (fld 0x52 (fld 0x7a (0 ∷ 0 ∷ 0 ∷ 0 ∷ 0 ∷ 0 ∷ 0 ∷ 0 ∷ 2 ∷ []))))))))) [] 65536 65536 65536 0 1 (fld 0x84 ((0 ∷ 0 ∷ 0 ∷ 1 ∷ []) ++ ((0 ∷ 0 ∷ []) ++ (fld 0x81 (ascii "<a b=\"0\"></a>"))))) ((fld 0x82 ((fld 0x81 (ascii "react/jsx-runtime")) ++ (2 ∷ []))) ++ ((fld 0x83 []) ++ (fld 0x12 (fld 0x90 (0 ∷ 0 ∷ 0 ∷ 1 ∷ []))))) ∷
    -- 100.00
    mark (fld 0x01 (fld 0x12 (fld 0x30 ((fld 0x40 (ascii "a")) ++ (fld 0x50 ((fld 0x40 (ascii "b")) ++ (fld 0x52 (fld 0x7a (0 ∷ 0 ∷ 0 ∷ 0 ∷ 0 ∷ 0 ∷ 39 ∷ 16 ∷ 2 ∷ []))))))))) [] 65536 65536 65536 0 1 (fld 0x84 ((0 ∷ 0 ∷ 0 ∷ 1 ∷ []) ++ ((0 ∷ 0 ∷ []) ++ (fld 0x81 (ascii "<a b=\"100\"></a>"))))) ((fld 0x82 ((fld 0x81 (ascii "react/jsx-runtime")) ++ (2 ∷ []))) ++ ((fld 0x83 []) ++ (fld 0x12 (fld 0x90 (0 ∷ 0 ∷ 0 ∷ 1 ∷ []))))) ∷
    -- -0.00
    mark (fld 0x01 (fld 0x12 (fld 0x30 ((fld 0x40 (ascii "a")) ++ (fld 0x50 ((fld 0x40 (ascii "b")) ++ (fld 0x52 (fld 0x7b (0 ∷ 0 ∷ 0 ∷ 0 ∷ 0 ∷ 0 ∷ 0 ∷ 0 ∷ 2 ∷ []))))))))) [] 65536 65536 65536 0 1 (fld 0x84 ((0 ∷ 0 ∷ 0 ∷ 1 ∷ []) ++ ((0 ∷ 0 ∷ []) ++ (fld 0x81 (ascii "<a b=\"-0\"></a>"))))) ((fld 0x82 ((fld 0x81 (ascii "react/jsx-runtime")) ++ (2 ∷ []))) ++ ((fld 0x83 []) ++ (fld 0x12 (fld 0x90 (0 ∷ 0 ∷ 0 ∷ 1 ∷ []))))) ∷
    -- <p>{12.50}</p>
    mark (fld 0x01 (fld 0x12 (fld 0x30 ((fld 0x40 (ascii "p")) ++ (fld 0x52 (fld 0x7a (0 ∷ 0 ∷ 0 ∷ 0 ∷ 0 ∷ 0 ∷ 4 ∷ 226 ∷ 2 ∷ []))))))) [] 65536 65536 65536 0 1 (fld 0x84 ((0 ∷ 0 ∷ 0 ∷ 1 ∷ []) ++ ((0 ∷ 0 ∷ []) ++ (fld 0x81 (ascii "<p>12.5</p>"))))) ((fld 0x82 ((fld 0x81 (ascii "react/jsx-runtime")) ++ (2 ∷ []))) ++ ((fld 0x83 []) ++ (fld 0x12 (fld 0x90 (0 ∷ 0 ∷ 0 ∷ 1 ∷ []))))) ∷
    -- <p>{-12.50}</p>
    mark (fld 0x01 (fld 0x12 (fld 0x30 ((fld 0x40 (ascii "p")) ++ (fld 0x52 (fld 0x7b (0 ∷ 0 ∷ 0 ∷ 0 ∷ 0 ∷ 0 ∷ 4 ∷ 226 ∷ 2 ∷ []))))))) [] 65536 65536 65536 0 1 (fld 0x84 ((0 ∷ 0 ∷ 0 ∷ 1 ∷ []) ++ ((0 ∷ 1 ∷ 2 ∷ []) ++ ((fld 0x81 (ascii "<p>")) ++ (fld 0x81 (ascii "</p>")))))) ((fld 0x82 ((fld 0x81 (ascii "react/jsx-runtime")) ++ (10 ∷ []))) ++ ((fld 0x83 []) ++ (fld 0x12 (fld 0x90 ((0 ∷ 0 ∷ 0 ∷ 1 ∷ []) ++ (fld 0x92 (fld 0x7b (0 ∷ 0 ∷ 0 ∷ 0 ∷ 0 ∷ 0 ∷ 4 ∷ 226 ∷ 2 ∷ [])))))))) ∷
    -- <Foo a={12.50}/>
    mark (fld 0x01 (fld 0x12 (fld 0x30 ((fld 0x40 (ascii "Foo")) ++ (fld 0x50 ((fld 0x40 (ascii "a")) ++ (fld 0x52 (fld 0x7a (0 ∷ 0 ∷ 0 ∷ 0 ∷ 0 ∷ 0 ∷ 4 ∷ 226 ∷ 2 ∷ []))))))))) [] 65536 65536 65536 0 0 [] ((fld 0x82 ((fld 0x81 (ascii "react/jsx-runtime")) ++ (1 ∷ []))) ++ (fld 0x12 (fld 0x94 ((fld 0x40 (ascii "Foo")) ++ (fld 0x95 (fld 0x96 ((fld 0x81 (ascii "a")) ++ (fld 0x7a (0 ∷ 0 ∷ 0 ∷ 0 ∷ 0 ∷ 0 ∷ 4 ∷ 226 ∷ 2 ∷ []))))))))) ∷
    -- digits one over
    mark (fld 0x01 (fld 0x12 (fld 0x30 ((fld 0x40 (ascii "a")) ++ (fld 0x50 ((fld 0x40 (ascii "b")) ++ (fld 0x52 (fld 0x7a (0 ∷ 3 ∷ 141 ∷ 126 ∷ 164 ∷ 198 ∷ 128 ∷ 0 ∷ 0 ∷ []))))))))) [] 65536 65536 65536 7 0 [] [] ∷
    -- sixteen places
    mark (fld 0x01 (fld 0x12 (fld 0x30 ((fld 0x40 (ascii "a")) ++ (fld 0x50 ((fld 0x40 (ascii "b")) ++ (fld 0x52 (fld 0x7a (0 ∷ 0 ∷ 0 ∷ 0 ∷ 0 ∷ 0 ∷ 0 ∷ 1 ∷ 16 ∷ []))))))))) [] 65536 65536 65536 7 0 [] [] ∷
    -- a 7A of eight bytes
    mark (fld 0x01 (fld 0x12 (fld 0x30 ((fld 0x40 (ascii "a")) ++ (fld 0x50 ((fld 0x40 (ascii "b")) ++ (fld 0x52 (fld 0x7a (0 ∷ 0 ∷ 0 ∷ 0 ∷ 0 ∷ 0 ∷ 0 ∷ 1 ∷ []))))))))) [] 65536 65536 65536 4 0 [] [] ∷
    -- a 71 of nine bytes
    mark (fld 0x01 (fld 0x12 (fld 0x30 ((fld 0x40 (ascii "a")) ++ (fld 0x50 ((fld 0x40 (ascii "b")) ++ (fld 0x52 (fld 0x71 (0 ∷ 0 ∷ 0 ∷ 0 ∷ 0 ∷ 0 ∷ 0 ∷ 1 ∷ 0 ∷ []))))))))) [] 65536 65536 65536 4 0 [] [] ∷
    -- <p>{2 * 12 + 3}</p>, 05
    mark (fld 0x01 (fld 0x12 (fld 0x30 ((fld 0x40 (ascii "p")) ++ (fld 0x52 (fld 0x79 (fld 0x20 (ascii "2 * 12 + 3")))))))) (fld 0x05 []) 65536 65536 65536 0 1 (fld 0x84 ((0 ∷ 0 ∷ 0 ∷ 1 ∷ []) ++ ((0 ∷ 0 ∷ []) ++ (fld 0x81 (ascii "<p>27</p>"))))) ((fld 0x82 ((fld 0x81 (ascii "react/jsx-runtime")) ++ (2 ∷ []))) ++ ((fld 0x83 []) ++ (fld 0x12 (fld 0x90 (0 ∷ 0 ∷ 0 ∷ 1 ∷ []))))) ∷
    -- <p>{2 * 12 + 3}</p>, no 05
    mark (fld 0x01 (fld 0x12 (fld 0x30 ((fld 0x40 (ascii "p")) ++ (fld 0x52 (fld 0x79 (fld 0x20 (ascii "2 * 12 + 3")))))))) [] 65536 65536 65536 0 1 (fld 0x84 ((0 ∷ 0 ∷ 0 ∷ 1 ∷ []) ++ ((0 ∷ 1 ∷ 2 ∷ []) ++ ((fld 0x81 (ascii "<p>")) ++ (fld 0x81 (ascii "</p>")))))) ((fld 0x82 ((fld 0x81 (ascii "react/jsx-runtime")) ++ (10 ∷ []))) ++ ((fld 0x83 []) ++ (fld 0x12 (fld 0x90 ((0 ∷ 0 ∷ 0 ∷ 1 ∷ []) ++ (fld 0x92 (fld 0x79 (fld 0x20 (ascii "2 * 12 + 3"))))))))) ∷
    -- <p>{0 - 1}</p>, 05
    mark (fld 0x01 (fld 0x12 (fld 0x30 ((fld 0x40 (ascii "p")) ++ (fld 0x52 (fld 0x79 (fld 0x20 (ascii "0 - 1")))))))) (fld 0x05 []) 65536 65536 65536 0 1 (fld 0x84 ((0 ∷ 0 ∷ 0 ∷ 1 ∷ []) ++ ((0 ∷ 1 ∷ 2 ∷ []) ++ ((fld 0x81 (ascii "<p>")) ++ (fld 0x81 (ascii "</p>")))))) ((fld 0x82 ((fld 0x81 (ascii "react/jsx-runtime")) ++ (10 ∷ []))) ++ ((fld 0x83 []) ++ (fld 0x12 (fld 0x90 ((0 ∷ 0 ∷ 0 ∷ 1 ∷ []) ++ (fld 0x92 (fld 0x75 (0 ∷ 0 ∷ 0 ∷ 0 ∷ 0 ∷ 0 ∷ 0 ∷ 1 ∷ [])))))))) ∷
    -- <p>{007}</p>, 05
    mark (fld 0x01 (fld 0x12 (fld 0x30 ((fld 0x40 (ascii "p")) ++ (fld 0x52 (fld 0x79 (fld 0x20 (ascii "007")))))))) (fld 0x05 []) 65536 65536 65536 0 1 (fld 0x84 ((0 ∷ 0 ∷ 0 ∷ 1 ∷ []) ++ ((0 ∷ 1 ∷ 2 ∷ []) ++ ((fld 0x81 (ascii "<p>")) ++ (fld 0x81 (ascii "</p>")))))) ((fld 0x82 ((fld 0x81 (ascii "react/jsx-runtime")) ++ (10 ∷ []))) ++ ((fld 0x83 []) ++ (fld 0x12 (fld 0x90 ((0 ∷ 0 ∷ 0 ∷ 1 ∷ []) ++ (fld 0x92 (fld 0x79 (fld 0x20 (ascii "007"))))))))) ∷
    -- <p>{1 and +1, two pieces}</p>, 05
    mark (fld 0x01 (fld 0x12 (fld 0x30 ((fld 0x40 (ascii "p")) ++ (fld 0x52 (fld 0x79 ((fld 0x20 (ascii "1")) ++ (fld 0x20 (ascii "+1"))))))))) (fld 0x05 []) 65536 65536 65536 0 1 (fld 0x84 ((0 ∷ 0 ∷ 0 ∷ 1 ∷ []) ++ ((0 ∷ 1 ∷ 2 ∷ []) ++ ((fld 0x81 (ascii "<p>")) ++ (fld 0x81 (ascii "</p>")))))) ((fld 0x82 ((fld 0x81 (ascii "react/jsx-runtime")) ++ (10 ∷ []))) ++ ((fld 0x83 []) ++ (fld 0x12 (fld 0x90 ((0 ∷ 0 ∷ 0 ∷ 1 ∷ []) ++ (fld 0x92 (fld 0x79 ((fld 0x20 (ascii "1")) ++ (fld 0x20 (ascii "+1")))))))))) ∷
    -- 05 behind 04
    mark (fld 0x01 (fld 0x12 (fld 0x30 (fld 0x40 (ascii "br"))))) ((fld 0x04 (ascii "x")) ++ (fld 0x05 [])) 65536 65536 65536 0 1 (fld 0x84 ((0 ∷ 0 ∷ 0 ∷ 1 ∷ []) ++ ((0 ∷ 0 ∷ []) ++ (fld 0x81 (ascii "<br>"))))) ((fld 0x82 ((fld 0x81 (ascii "x/jsx-runtime")) ++ (2 ∷ []))) ++ ((fld 0x83 []) ++ (fld 0x12 (fld 0x90 (0 ∷ 0 ∷ 0 ∷ 1 ∷ []))))) ∷
    -- 05 with a body
    mark (fld 0x01 (fld 0x12 (fld 0x30 (fld 0x40 (ascii "br"))))) (fld 0x05 (1 ∷ [])) 65536 65536 65536 4 0 [] [] ∷
    -- 05 before 04
    mark (fld 0x01 (fld 0x12 (fld 0x30 (fld 0x40 (ascii "br"))))) ((fld 0x05 []) ++ (fld 0x04 (ascii "x"))) 65536 65536 65536 4 0 [] [] ∷
    -- 05 twice
    mark (fld 0x01 (fld 0x12 (fld 0x30 (fld 0x40 (ascii "br"))))) ((fld 0x05 []) ++ (fld 0x05 [])) 65536 65536 65536 4 0 [] [] ∷
    -- 06
    mark (fld 0x01 (fld 0x12 (fld 0x30 (fld 0x40 (ascii "br"))))) (fld 0x06 []) 65536 65536 65536 4 0 [] [] ∷
    -- scratch of 65,535 bytes
    mark (fld 0x01 (fld 0x12 (fld 0x30 (fld 0x40 (ascii "br"))))) [] 65535 65536 65536 1 0 [] [] ∷
    -- an empty page
    mark [] [] 65536 65536 65536 3 0 [] [] ∷
    -- two bytes
    mark (1 ∷ 0 ∷ []) [] 65536 65536 65536 3 0 [] [] ∷
    -- bytes after 01
    mark ((fld 0x01 []) ++ (0 ∷ [])) [] 65536 65536 65536 3 0 [] [] ∷
    -- 01 0003 99 0000 07
    mark (1 ∷ 0 ∷ 3 ∷ 153 ∷ 0 ∷ 0 ∷ 7 ∷ []) [] 65536 65536 65536 4 0 [] [] ∷
    -- empty 01
    mark (fld 0x01 []) [] 65536 65536 65536 0 0 [] [] ∷
    -- a name with a digit first
    mark (fld 0x01 (fld 0x12 (fld 0x30 (fld 0x40 (ascii "1"))))) [] 65536 65536 65536 5 0 [] [] ∷
    -- a hyphen in a member
    mark (fld 0x01 (fld 0x12 (fld 0x30 (fld 0x41 ((fld 0x40 (ascii "a")) ++ (fld 0x40 (ascii "b-c"))))))) [] 65536 65536 65536 5 0 [] [] ∷
    -- one member
    mark (fld 0x01 (fld 0x12 (fld 0x30 (fld 0x41 (fld 0x40 (ascii "a")))))) [] 65536 65536 65536 4 0 [] [] ∷
    -- a surrogate
    mark (fld 0x01 (fld 0x12 (fld 0x20 (237 ∷ 160 ∷ 128 ∷ [])))) [] 65536 65536 65536 6 0 [] [] ∷
    -- the letter before the surrogates
    mark (fld 0x01 (fld 0x12 (fld 0x20 (237 ∷ 159 ∷ 191 ∷ [])))) [] 65536 65536 65536 0 0 [] (fld 0x12 (fld 0x20 (237 ∷ 159 ∷ 191 ∷ []))) ∷
    -- 04 empty
    mark (fld 0x01 (fld 0x12 (fld 0x30 (fld 0x40 (ascii "br"))))) (fld 0x04 []) 65536 65536 65536 4 0 [] [] ∷
    -- 04 before 02
    mark (fld 0x01 (fld 0x12 (fld 0x30 (fld 0x40 (ascii "br"))))) ((fld 0x04 (ascii "x")) ++ (fld 0x02 [])) 65536 65536 65536 4 0 [] [] ∷
    -- import source x
    mark (fld 0x01 (fld 0x12 (fld 0x30 (fld 0x40 (ascii "br"))))) (fld 0x04 (ascii "x")) 65536 65536 65536 0 1 (fld 0x84 ((0 ∷ 0 ∷ 0 ∷ 1 ∷ []) ++ ((0 ∷ 0 ∷ []) ++ (fld 0x81 (ascii "<br>"))))) ((fld 0x82 ((fld 0x81 (ascii "x/jsx-runtime")) ++ (2 ∷ []))) ++ ((fld 0x83 []) ++ (fld 0x12 (fld 0x90 (0 ∷ 0 ∷ 0 ∷ 1 ∷ []))))) ∷
    -- templates out one short
    mark (fld 0x01 (fld 0x12 (fld 0x30 (fld 0x40 (ascii "br"))))) [] 65536 15 65536 12 0 [] [] ∷
    -- templates out as long
    mark (fld 0x01 (fld 0x12 (fld 0x30 (fld 0x40 (ascii "br"))))) [] 65536 16 65536 0 1 (fld 0x84 ((0 ∷ 0 ∷ 0 ∷ 1 ∷ []) ++ ((0 ∷ 0 ∷ []) ++ (fld 0x81 (ascii "<br>"))))) ((fld 0x82 ((fld 0x81 (ascii "react/jsx-runtime")) ++ (2 ∷ []))) ++ ((fld 0x83 []) ++ (fld 0x12 (fld 0x90 (0 ∷ 0 ∷ 0 ∷ 1 ∷ []))))) ∷
    -- page out one short
    mark (fld 0x01 (fld 0x12 (fld 0x30 (fld 0x40 (ascii "br"))))) [] 65536 16 36 13 0 [] [] ∷
    -- page out as long
    mark (fld 0x01 (fld 0x12 (fld 0x30 (fld 0x40 (ascii "br"))))) [] 65536 16 37 0 1 (fld 0x84 ((0 ∷ 0 ∷ 0 ∷ 1 ∷ []) ++ ((0 ∷ 0 ∷ []) ++ (fld 0x81 (ascii "<br>"))))) ((fld 0x82 ((fld 0x81 (ascii "react/jsx-runtime")) ++ (2 ∷ []))) ++ ((fld 0x83 []) ++ (fld 0x12 (fld 0x90 (0 ∷ 0 ∷ 0 ∷ 1 ∷ []))))) ∷
    -- <Foo a={1}/>
    mark (fld 0x01 (fld 0x12 (fld 0x30 ((fld 0x40 (ascii "Foo")) ++ (fld 0x50 ((fld 0x40 (ascii "a")) ++ (fld 0x52 (fld 0x71 (0 ∷ 0 ∷ 0 ∷ 0 ∷ 0 ∷ 0 ∷ 0 ∷ 1 ∷ []))))))))) [] 65536 65536 65536 0 0 [] ((fld 0x82 ((fld 0x81 (ascii "react/jsx-runtime")) ++ (1 ∷ []))) ++ (fld 0x12 (fld 0x94 ((fld 0x40 (ascii "Foo")) ++ (fld 0x95 (fld 0x96 ((fld 0x81 (ascii "a")) ++ (fld 0x71 (0 ∷ 0 ∷ 0 ∷ 0 ∷ 0 ∷ 0 ∷ 0 ∷ 1 ∷ []))))))))) ∷
    -- <a b="<&"/>
    mark (fld 0x01 (fld 0x12 (fld 0x30 ((fld 0x40 (ascii "a")) ++ (fld 0x50 ((fld 0x40 (ascii "b")) ++ (fld 0x51 (ascii "<&")))))))) [] 65536 65536 65536 0 1 (fld 0x84 ((0 ∷ 0 ∷ 0 ∷ 1 ∷ []) ++ ((0 ∷ 0 ∷ []) ++ (fld 0x81 (ascii "<a b=\"&lt;&amp;\"></a>"))))) ((fld 0x82 ((fld 0x81 (ascii "react/jsx-runtime")) ++ (2 ∷ []))) ++ ((fld 0x83 []) ++ (fld 0x12 (fld 0x90 (0 ∷ 0 ∷ 0 ∷ 1 ∷ []))))) ∷
    -- <i/> and <b/>, side by side
    mark (fld 0x01 (fld 0x12 ((fld 0x30 (fld 0x40 (ascii "i"))) ++ (fld 0x30 (fld 0x40 (ascii "b")))))) [] 65536 65536 65536 0 2 ((fld 0x84 ((0 ∷ 0 ∷ 0 ∷ 1 ∷ []) ++ ((0 ∷ 0 ∷ []) ++ (fld 0x81 (ascii "<i></i>"))))) ++ (fld 0x84 ((0 ∷ 0 ∷ 0 ∷ 2 ∷ []) ++ ((0 ∷ 0 ∷ []) ++ (fld 0x81 (ascii "<b></b>")))))) ((fld 0x82 ((fld 0x81 (ascii "react/jsx-runtime")) ++ (2 ∷ []))) ++ ((fld 0x83 []) ++ (fld 0x12 ((fld 0x90 (0 ∷ 0 ∷ 0 ∷ 1 ∷ [])) ++ (fld 0x90 (0 ∷ 0 ∷ 0 ∷ 2 ∷ [])))))) ∷
    -- <p class="a" className="b"/>
    mark (fld 0x01 (fld 0x12 (fld 0x30 ((fld 0x40 (ascii "p")) ++ ((fld 0x50 ((fld 0x40 (ascii "class")) ++ (fld 0x51 (ascii "a")))) ++ (fld 0x50 ((fld 0x40 (ascii "className")) ++ (fld 0x51 (ascii "b"))))))))) [] 65536 65536 65536 16 0 [] [] ∷
    -- <use xlinkHref="a" href="b"/>
    mark (fld 0x01 (fld 0x12 (fld 0x30 ((fld 0x40 (ascii "use")) ++ ((fld 0x50 ((fld 0x40 (ascii "xlinkHref")) ++ (fld 0x51 (ascii "a")))) ++ (fld 0x50 ((fld 0x40 (ascii "href")) ++ (fld 0x51 (ascii "b"))))))))) [] 65536 65536 65536 16 0 [] [] ∷
    -- <svg viewBox="a" viewbox="b"/>
    mark (fld 0x01 (fld 0x12 (fld 0x30 ((fld 0x40 (ascii "svg")) ++ ((fld 0x50 ((fld 0x40 (ascii "viewBox")) ++ (fld 0x51 (ascii "a")))) ++ (fld 0x50 ((fld 0x40 (ascii "viewbox")) ++ (fld 0x51 (ascii "b"))))))))) [] 65536 65536 65536 16 0 [] [] ∷
    -- <p class="a" id="b" className="c"/>: not side by side
    mark (fld 0x01 (fld 0x12 (fld 0x30 ((fld 0x40 (ascii "p")) ++ ((fld 0x50 ((fld 0x40 (ascii "class")) ++ (fld 0x51 (ascii "a")))) ++ ((fld 0x50 ((fld 0x40 (ascii "id")) ++ (fld 0x51 (ascii "b")))) ++ (fld 0x50 ((fld 0x40 (ascii "className")) ++ (fld 0x51 (ascii "c")))))))))) [] 65536 65536 65536 16 0 [] [] ∷
    -- <p id="c" class="a" className="b"/>: not the first
    mark (fld 0x01 (fld 0x12 (fld 0x30 ((fld 0x40 (ascii "p")) ++ ((fld 0x50 ((fld 0x40 (ascii "id")) ++ (fld 0x51 (ascii "c")))) ++ ((fld 0x50 ((fld 0x40 (ascii "class")) ++ (fld 0x51 (ascii "a")))) ++ (fld 0x50 ((fld 0x40 (ascii "className")) ++ (fld 0x51 (ascii "b")))))))))) [] 65536 65536 65536 16 0 [] [] ∷
    -- <div>a<p class="a" className="b"/></div>: not the outermost
    mark (fld 0x01 (fld 0x12 (fld 0x30 ((fld 0x40 (ascii "div")) ++ ((fld 0x60 (ascii "a")) ++ (fld 0x30 ((fld 0x40 (ascii "p")) ++ ((fld 0x50 ((fld 0x40 (ascii "class")) ++ (fld 0x51 (ascii "a")))) ++ (fld 0x50 ((fld 0x40 (ascii "className")) ++ (fld 0x51 (ascii "b")))))))))))) [] 65536 65536 65536 16 0 [] [] ∷
    -- <p class={} className="b"/>: the first is dropped
    mark (fld 0x01 (fld 0x12 (fld 0x30 ((fld 0x40 (ascii "p")) ++ ((fld 0x50 ((fld 0x40 (ascii "class")) ++ (fld 0x52 []))) ++ (fld 0x50 ((fld 0x40 (ascii "className")) ++ (fld 0x51 (ascii "b"))))))))) [] 65536 65536 65536 16 0 [] [] ∷
    -- <p class="a" className="b"/>, class in 03
    mark (fld 0x01 (fld 0x12 (fld 0x30 ((fld 0x40 (ascii "p")) ++ ((fld 0x50 ((fld 0x40 (ascii "class")) ++ (fld 0x51 (ascii "a")))) ++ (fld 0x50 ((fld 0x40 (ascii "className")) ++ (fld 0x51 (ascii "b"))))))))) (fld 0x03 (fld 0x20 (ascii "class"))) 65536 65536 65536 16 0 [] [] ∷
    -- <p class="a" className="b" {...x}/>: a call
    mark (fld 0x01 (fld 0x12 (fld 0x30 ((fld 0x40 (ascii "p")) ++ ((fld 0x50 ((fld 0x40 (ascii "class")) ++ (fld 0x51 (ascii "a")))) ++ ((fld 0x50 ((fld 0x40 (ascii "className")) ++ (fld 0x51 (ascii "b")))) ++ (fld 0x53 (fld 0x79 (fld 0x20 (ascii "x")))))))))) [] 65536 65536 65536 0 0 [] ((fld 0x82 ((fld 0x81 (ascii "react/jsx-runtime")) ++ (1 ∷ []))) ++ (fld 0x12 (fld 0x94 ((fld 0x81 (ascii "p")) ++ (fld 0x95 ((fld 0x96 ((fld 0x81 (ascii "class")) ++ (fld 0x70 (ascii "a")))) ++ ((fld 0x96 ((fld 0x81 (ascii "class")) ++ (fld 0x70 (ascii "b")))) ++ (fld 0x53 (fld 0x79 (fld 0x20 (ascii "x"))))))))))) ∷
    -- <Foo class="a" className="b"/>: a component
    mark (fld 0x01 (fld 0x12 (fld 0x30 ((fld 0x40 (ascii "Foo")) ++ ((fld 0x50 ((fld 0x40 (ascii "class")) ++ (fld 0x51 (ascii "a")))) ++ (fld 0x50 ((fld 0x40 (ascii "className")) ++ (fld 0x51 (ascii "b"))))))))) [] 65536 65536 65536 0 0 [] ((fld 0x82 ((fld 0x81 (ascii "react/jsx-runtime")) ++ (1 ∷ []))) ++ (fld 0x12 (fld 0x94 ((fld 0x40 (ascii "Foo")) ++ (fld 0x95 ((fld 0x96 ((fld 0x81 (ascii "class")) ++ (fld 0x70 (ascii "a")))) ++ (fld 0x96 ((fld 0x81 (ascii "className")) ++ (fld 0x70 (ascii "b")))))))))) ∷
    -- <br><p class="a" className="b"/></br>: lost
    mark (fld 0x01 (fld 0x12 (fld 0x30 ((fld 0x40 (ascii "br")) ++ (fld 0x30 ((fld 0x40 (ascii "p")) ++ ((fld 0x50 ((fld 0x40 (ascii "class")) ++ (fld 0x51 (ascii "a")))) ++ (fld 0x50 ((fld 0x40 (ascii "className")) ++ (fld 0x51 (ascii "b"))))))))))) [] 65536 65536 65536 0 1 (fld 0x84 ((0 ∷ 0 ∷ 0 ∷ 1 ∷ []) ++ ((0 ∷ 0 ∷ []) ++ (fld 0x81 (ascii "<br>"))))) ((fld 0x82 ((fld 0x81 (ascii "react/jsx-runtime")) ++ (2 ∷ []))) ++ ((fld 0x83 []) ++ (fld 0x12 (fld 0x90 (0 ∷ 0 ∷ 0 ∷ 1 ∷ []))))) ∷
    -- <p class="a" className="b"/> beside <><></></>
    mark (fld 0x01 (fld 0x12 ((fld 0x30 ((fld 0x40 (ascii "p")) ++ ((fld 0x50 ((fld 0x40 (ascii "class")) ++ (fld 0x51 (ascii "a")))) ++ (fld 0x50 ((fld 0x40 (ascii "className")) ++ (fld 0x51 (ascii "b"))))))) ++ (fld 0x31 (fld 0x31 []))))) [] 65536 65536 65536 10 0 [] [] ∷
    -- <p class="a" className="b"/>, no room in templates out
    mark (fld 0x01 (fld 0x12 (fld 0x30 ((fld 0x40 (ascii "p")) ++ ((fld 0x50 ((fld 0x40 (ascii "class")) ++ (fld 0x51 (ascii "a")))) ++ (fld 0x50 ((fld 0x40 (ascii "className")) ++ (fld 0x51 (ascii "b"))))))))) [] 65536 0 65536 16 0 [] [] ∷
    -- <bR/>
    mark (fld 0x01 (fld 0x12 (fld 0x30 (fld 0x40 (ascii "bR"))))) [] 65536 65536 65536 19 0 [] [] ∷
    -- <p>{x}<bR/></p>: behind a gap
    mark (fld 0x01 (fld 0x12 (fld 0x30 ((fld 0x40 (ascii "p")) ++ ((fld 0x52 (fld 0x79 (fld 0x20 (ascii "x")))) ++ (fld 0x30 (fld 0x40 (ascii "bR")))))))) [] 65536 65536 65536 19 0 [] [] ∷
    -- <iNPUT/>
    mark (fld 0x01 (fld 0x12 (fld 0x30 (fld 0x40 (ascii "iNPUT"))))) [] 65536 65536 65536 19 0 [] [] ∷
    -- <Br/>: a component
    mark (fld 0x01 (fld 0x12 (fld 0x30 (fld 0x40 (ascii "Br"))))) [] 65536 65536 65536 0 0 [] ((fld 0x82 ((fld 0x81 (ascii "react/jsx-runtime")) ++ (1 ∷ []))) ++ (fld 0x12 (fld 0x94 ((fld 0x40 (ascii "Br")) ++ (fld 0x73 []))))) ∷
    -- <INPUT/>: a component
    mark (fld 0x01 (fld 0x12 (fld 0x30 (fld 0x40 (ascii "INPUT"))))) [] 65536 65536 65536 0 0 [] ((fld 0x82 ((fld 0x81 (ascii "react/jsx-runtime")) ++ (1 ∷ []))) ++ (fld 0x12 (fld 0x94 ((fld 0x40 (ascii "INPUT")) ++ (fld 0x73 []))))) ∷
    -- <dIV/>: none of the 14
    mark (fld 0x01 (fld 0x12 (fld 0x30 (fld 0x40 (ascii "dIV"))))) [] 65536 65536 65536 0 1 (fld 0x84 ((0 ∷ 0 ∷ 0 ∷ 1 ∷ []) ++ ((0 ∷ 0 ∷ []) ++ (fld 0x81 (ascii "<dIV></dIV>"))))) ((fld 0x82 ((fld 0x81 (ascii "react/jsx-runtime")) ++ (2 ∷ []))) ++ ((fld 0x83 []) ++ (fld 0x12 (fld 0x90 (0 ∷ 0 ∷ 0 ∷ 1 ∷ []))))) ∷
    -- <bR class="a" className="b"/>
    mark (fld 0x01 (fld 0x12 (fld 0x30 ((fld 0x40 (ascii "bR")) ++ ((fld 0x50 ((fld 0x40 (ascii "class")) ++ (fld 0x51 (ascii "a")))) ++ (fld 0x50 ((fld 0x40 (ascii "className")) ++ (fld 0x51 (ascii "b"))))))))) [] 65536 65536 65536 16 0 [] [] ∷
    -- <bR/> before <p class="a" className="b"/>
    mark (fld 0x01 (fld 0x12 ((fld 0x30 (fld 0x40 (ascii "bR"))) ++ (fld 0x30 ((fld 0x40 (ascii "p")) ++ ((fld 0x50 ((fld 0x40 (ascii "class")) ++ (fld 0x51 (ascii "a")))) ++ (fld 0x50 ((fld 0x40 (ascii "className")) ++ (fld 0x51 (ascii "b")))))))))) [] 65536 65536 65536 16 0 [] [] ∷
    -- <bR/>, no room in templates out
    mark (fld 0x01 (fld 0x12 (fld 0x30 (fld 0x40 (ascii "bR"))))) [] 65536 0 65536 19 0 [] [] ∷
    -- a run over 65,535 that is merged again
    mark (fld 0x01 (fld 0x12 (fld 0x30 ((fld 0x40 (ascii "Foo")) ++ ((fld 0x60 (ascii "a")) ++ ((fld 0x52 (fld 0x70 (replicate 13107 38))) ++ (fld 0x30 (fld 0x40 (ascii "i"))))))))) [] 65536 65536 65536 11 0 [] [] ∷
    -- a body over 65,535
    mark (fld 0x01 (fld 0x12 (fld 0x30 ((fld 0x40 (ascii "p")) ++ (fld 0x60 (replicate 13107 38)))))) [] 65536 65536 65536 11 0 [] [] ∷
    []
