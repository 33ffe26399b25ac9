-- A page of a catalogue; what the catalogue is told of templates and page outs (Format), and what the theorems ask of that (Given), so that
-- nothing here hangs on their grammars. Assumes nothing: these are definitions.
use Rattle.std.specs.Prelude.{ℕ, ◌^◌, ◌<◌, ◌≡◌, Bool, true, ◌&&◌, [], ◌∷◌, leb, eqb, length, get_or}
use Rattle.field.specs.Bytes.{Bytes, AllBytes}

-- templates out, a row of 84s, and a page out
pub record Body : Type 0 where
  pub templates : Bytes
  pub page_out : Bytes

-- a page as it arrived, its templates numbered from 1. Under A13 the house is 0
pub record Page : Type 0 where
  pub name : ℕ
  pub house : ℕ
  pub body : Body

abbrev pub IsBytes : Body → Type 0
IsBytes x = AllBytes x.templates × AllBytes x.page_out

-- since A14 a page says which of 16 houses it belongs to, in one byte more
pub data Request : Type 0 where
  A13 : Request
  A14 : Request

abbrev pub house_width : Request → ℕ
house_width A13 = 0
house_width A14 = 1

abbrev pub house_bytes : Request → ℕ → Bytes
house_bytes A13 h = []
house_bytes A14 h = h ∷ []

abbrev pub house_in : Request → Bytes → ℕ
house_in A13 b = 0
house_in A14 b = get_or b 0 0

abbrev pub house_right : Request → ℕ → Bool
house_right A13 h = eqb h 0
house_right A14 h = leb 1 h && leb h 16

-- what a catalogue is told of templates and page outs
pub record Format : Type 0 where
  pub request : Request
  -- A13: 0 for a page that may stand in a catalogue, else the number of its refusal. It is checked as A7 checks a page on its way down, numbers
  -- above 65,535 not being refused; 17 also stands for numbers other than 1, 2 .. up to the last, or one that is not recorded and called once
  pub judge : Body → ℕ
  -- how many templates a page has
  pub forms : Body → ℕ
  -- A13: the templates of a page go on counting where the pages before it stop, as they are recorded and as they are called: so many further,
  -- and back
  pub up : ℕ → Body → Body
  pub down : ℕ → Body → Body

-- what the theorems ask of these
pub record Given : Type 0 where
  pub format : Format
  pub up_templates : (n : ℕ) (x : Body) → length (format.up n x).templates ≡ length x.templates
  pub up_page_out : (n : ℕ) (x : Body) → length (format.up n x).page_out ≡ length x.page_out
  pub down_templates : (n : ℕ) (x : Body) → length (format.down n x).templates ≡ length x.templates
  pub down_page_out : (n : ℕ) (x : Body) → length (format.down n x).page_out ≡ length x.page_out
  pub down_bytes : (n : ℕ) (x : Body) → IsBytes x → IsBytes (format.down n x)
  pub down_up : (n : ℕ) (x : Body) → IsBytes x → format.judge x ≡ 0 → format.down n (format.up n x) ≡ x
  pub up_down : (n : ℕ) (x : Body) → IsBytes x → format.judge (format.down n x) ≡ 0 → format.up n (format.down n x) ≡ x

-- a page that may stand in a catalogue
pub record Sound (F : Format) (p : Page) : Type 0 where
  pub four_bytes : p.name < 2 ^ 32
  pub of_bytes : IsBytes p.body
  pub house_is : house_right F.request p.house ≡ true
  pub judged : F.judge p.body ≡ 0
