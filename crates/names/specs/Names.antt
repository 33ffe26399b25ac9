-- The names of 000: attributes and what they become, void elements, boolean attributes. Assumes nothing: these are definitions.
use Rattle.std.specs.Prelude.{ℕ, ◌+◌, Bool, ◌&&◌, ◌||◌, List, [], ◌∷◌, ◌++◌, leb, eqb}
use Rattle.field.specs.Bytes.{Bytes, ascii, pick, same, among}

-- 000, is_void_element: the 14
unfoldable pub void_names : List Bytes
void_names =
    ascii "area" ∷ ascii "base" ∷ ascii "br" ∷ ascii "col" ∷ ascii "embed" ∷ ascii "hr" ∷ ascii "img" ∷
    ascii "input" ∷ ascii "link" ∷ ascii "meta" ∷ ascii "param" ∷ ascii "source" ∷ ascii "track" ∷ ascii "wbr" ∷ []

-- 000, is_boolean_attr: the 24
unfoldable pub boolean_names : List Bytes
boolean_names =
    ascii "allowfullscreen" ∷ ascii "async" ∷ ascii "autofocus" ∷ ascii "autoplay" ∷ ascii "checked" ∷
    ascii "controls" ∷ ascii "default" ∷ ascii "defer" ∷ ascii "disabled" ∷ ascii "formnovalidate" ∷ ascii "inert" ∷
    ascii "ismap" ∷ ascii "itemscope" ∷ ascii "loop" ∷ ascii "multiple" ∷ ascii "muted" ∷ ascii "nomodule" ∷
    ascii "novalidate" ∷ ascii "open" ∷ ascii "playsinline" ∷ ascii "readonly" ∷ ascii "required" ∷ ascii "reversed" ∷
    ascii "selected" ∷ []

-- 000, normalize_dom_attr_name: the 76 that become hyphenated
unfoldable pub hyphenated_names : List Bytes
hyphenated_names =
    ascii "accentHeight" ∷ ascii "acceptCharset" ∷ ascii "alignmentBaseline" ∷ ascii "arabicForm" ∷
    ascii "baselineShift" ∷ ascii "capHeight" ∷ ascii "clipPath" ∷ ascii "clipRule" ∷ ascii "colorInterpolation" ∷
    ascii "colorInterpolationFilters" ∷ ascii "colorProfile" ∷ ascii "colorRendering" ∷ ascii "contentScriptType" ∷
    ascii "contentStyleType" ∷ ascii "dominantBaseline" ∷ ascii "enableBackground" ∷ ascii "fillOpacity" ∷
    ascii "fillRule" ∷ ascii "floodColor" ∷ ascii "floodOpacity" ∷ ascii "fontFamily" ∷ ascii "fontSize" ∷
    ascii "fontSizeAdjust" ∷ ascii "fontStretch" ∷ ascii "fontStyle" ∷ ascii "fontVariant" ∷ ascii "fontWeight" ∷
    ascii "glyphName" ∷ ascii "glyphOrientationHorizontal" ∷ ascii "glyphOrientationVertical" ∷ ascii "horizAdvX" ∷
    ascii "horizOriginX" ∷ ascii "horizOriginY" ∷ ascii "httpEquiv" ∷ ascii "imageRendering" ∷ ascii "letterSpacing" ∷
    ascii "lightingColor" ∷ ascii "markerEnd" ∷ ascii "markerMid" ∷ ascii "markerStart" ∷ ascii "overlinePosition" ∷
    ascii "overlineThickness" ∷ ascii "paintOrder" ∷ ascii "pointerEvents" ∷ ascii "renderingIntent" ∷
    ascii "shapeRendering" ∷ ascii "stopColor" ∷ ascii "stopOpacity" ∷ ascii "strikethroughPosition" ∷
    ascii "strikethroughThickness" ∷ ascii "strokeDasharray" ∷ ascii "strokeDashoffset" ∷ ascii "strokeLinecap" ∷
    ascii "strokeLinejoin" ∷ ascii "strokeMiterlimit" ∷ ascii "strokeOpacity" ∷ ascii "strokeWidth" ∷
    ascii "textAnchor" ∷ ascii "textDecoration" ∷ ascii "textRendering" ∷ ascii "transformOrigin" ∷
    ascii "underlinePosition" ∷ ascii "underlineThickness" ∷ ascii "unicodeBidi" ∷ ascii "unicodeRange" ∷
    ascii "unitsPerEm" ∷ ascii "vAlphabetic" ∷ ascii "vectorEffect" ∷ ascii "vertAdvY" ∷ ascii "vertOriginX" ∷
    ascii "vertOriginY" ∷ ascii "vHanging" ∷ ascii "vMathematical" ∷ ascii "wordSpacing" ∷ ascii "writingMode" ∷
    ascii "xHeight" ∷ []

-- the 59 that stay as they are
unfoldable pub kept_names : List Bytes
kept_names =
    ascii "allowReorder" ∷ ascii "attributeName" ∷ ascii "attributeType" ∷ ascii "baseFrequency" ∷
    ascii "baseProfile" ∷ ascii "calcMode" ∷ ascii "clipPathUnits" ∷ ascii "diffuseConstant" ∷ ascii "edgeMode" ∷
    ascii "filterUnits" ∷ ascii "glyphRef" ∷ ascii "gradientTransform" ∷ ascii "gradientUnits" ∷
    ascii "kernelMatrix" ∷ ascii "kernelUnitLength" ∷ ascii "keyPoints" ∷ ascii "keySplines" ∷ ascii "keyTimes" ∷
    ascii "lengthAdjust" ∷ ascii "limitingConeAngle" ∷ ascii "markerHeight" ∷ ascii "markerUnits" ∷
    ascii "markerWidth" ∷ ascii "maskContentUnits" ∷ ascii "maskUnits" ∷ ascii "numOctaves" ∷ ascii "pathLength" ∷
    ascii "patternContentUnits" ∷ ascii "patternTransform" ∷ ascii "patternUnits" ∷ ascii "pointsAtX" ∷
    ascii "pointsAtY" ∷ ascii "pointsAtZ" ∷ ascii "preserveAlpha" ∷ ascii "preserveAspectRatio" ∷
    ascii "primitiveUnits" ∷ ascii "referrerPolicy" ∷ ascii "refX" ∷ ascii "refY" ∷ ascii "repeatCount" ∷
    ascii "repeatDur" ∷ ascii "requiredExtensions" ∷ ascii "requiredFeatures" ∷ ascii "specularConstant" ∷
    ascii "specularExponent" ∷ ascii "spreadMethod" ∷ ascii "startOffset" ∷ ascii "stdDeviation" ∷
    ascii "stitchTiles" ∷ ascii "surfaceScale" ∷ ascii "systemLanguage" ∷ ascii "tableValues" ∷ ascii "targetX" ∷
    ascii "targetY" ∷ ascii "textLength" ∷ ascii "viewBox" ∷ ascii "xChannelSelector" ∷ ascii "yChannelSelector" ∷
    ascii "zoomAndPan" ∷ []

-- the 15 that are singled out: as written, and as they become
unfoldable pub renamed : List (Bytes × Bytes)
renamed =
    (ascii "htmlFor", ascii "for") ∷
    (ascii "className", ascii "class") ∷
    (ascii "dangerouslySetInnerHTML", ascii "dangerouslySetInnerHTML") ∷
    (ascii "panose1", ascii "panose-1") ∷
    (ascii "xlinkActuate", ascii "xlink:actuate") ∷
    (ascii "xlinkArcrole", ascii "xlink:arcrole") ∷
    (ascii "xlinkHref", ascii "href") ∷
    (ascii "xlink:href", ascii "href") ∷
    (ascii "xlinkRole", ascii "xlink:role") ∷
    (ascii "xlinkShow", ascii "xlink:show") ∷
    (ascii "xlinkTitle", ascii "xlink:title") ∷
    (ascii "xlinkType", ascii "xlink:type") ∷
    (ascii "xmlBase", ascii "xml:base") ∷
    (ascii "xmlLang", ascii "xml:lang") ∷
    (ascii "xmlSpace", ascii "xml:space") ∷
    []

abbrev pub capital : ℕ → Bool
capital c = leb 65 c && leb c 90

unfoldable pub small_letter : ℕ → ℕ
small_letter c = pick (capital c) (c + 32) c

unfoldable pub small_letters : Bytes → Bytes
small_letters [] = []
small_letters (c ∷ cs) = small_letter c ∷ small_letters cs

-- each capital replaced by the byte s and its small letter
unfoldable pub parted : ℕ → Bytes → Bytes
parted s [] = []
parted s (c ∷ cs) = pick (capital c) (s ∷ (c + 32) ∷ parted s cs) (c ∷ parted s cs)

-- 01, Attribute name: each capital replaced by a hyphen and its small letter
abbrev pub hyphenate : Bytes → Bytes
hyphenate n = parted 45 n

-- what the first pair with the name says, or else the other
unfoldable pub rename_in : List (Bytes × Bytes) → Bytes → Bytes → Bytes
rename_in [] n other = other
rename_in (p ∷ ps) n other = pick (same n p.0) p.1 (rename_in ps n other)

-- 000, normalize_dom_attr_name: singled out, hyphenated, kept, and all others to small letters
unfoldable pub normalize_dom_attr_name : Bytes → Bytes
normalize_dom_attr_name n =
    rename_in renamed n (pick (among n hyphenated_names) (hyphenate n) (pick (among n kept_names) n (small_letters n)))

-- an attribute's name as JSX has it
pub data AttrName : Type 0 where
  ident : Bytes → AttrName
  namespaced : Bytes → Bytes → AttrName

-- 000, get_attr_name: a namespaced name is `ns:name` and is always normalised, an identifier only when asked
unfoldable pub get_attr_name : AttrName → Bool → Bytes
get_attr_name (ident n) normalize = pick normalize (normalize_dom_attr_name n) n
get_attr_name (namespaced ns n) normalize = normalize_dom_attr_name (ns ++ (58 ∷ n))

-- 01, Attribute name: both match by whole bytes
unfoldable pub is_void_element : Bytes → Bool
is_void_element n = among n void_names

unfoldable pub is_boolean_attr : Bytes → Bool
is_boolean_attr n = among n boolean_names

-- 01, Field: what names are made of, letters, digits, `-`, `_` and `$`; and the `:` of a namespaced name
unfoldable pub name_byte : ℕ → Bool
name_byte c =
    (leb 97 c && leb c 122) || (leb 65 c && leb c 90) || (leb 48 c && leb c 58) || eqb c 45 || eqb c 95 || eqb c 36
