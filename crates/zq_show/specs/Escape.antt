-- Bytes as text, in a terminal and in a page.
use Rattle.std.specs.Prelude.{ℕ, ◌==◌, Bool, not, ◌&&◌, List, [], ◌∷◌, ◌++◌, codes, if◌then◌else◌, length, take, nat_le}
use Rattle.std.specs.List.{flat_map}
use Rattle.percent_encoding.specs.Percent.{percent_encode}
use Rattle.percent_encoding.specs.declared.ascii_set.TheConstants.{CONTROLS}

-- what stands in a page for a byte: the entity of a byte that markup is made of, and else the byte
abbrev pub entity : ℕ → List ℕ
entity b =
    if b == 38 then codes "&amp;"
    else (if b == 60 then codes "&lt;"
    else (if b == 62 then codes "&gt;"
    else (if b == 34 then codes "&#34;"
    else (if b == 39 then codes "&#39;"
    else b ∷ []))))

-- bytes with an entity for each that markup is made of
abbrev pub escaped : List ℕ → List ℕ
escaped bytes = flat_map entity bytes

-- bytes as printed text: `%` and two digits for a control byte and for each above 126
abbrev pub shown : List ℕ → List ℕ
shown bytes = percent_encode CONTROLS bytes

-- bytes as printed text in a page
abbrev pub shown_in_page : List ℕ → List ℕ
shown_in_page bytes = escaped (shown bytes)

-- a text in a page, cut off where it is longer than so many bytes
abbrev pub cut_words : ℕ → List ℕ → List ℕ
cut_words most text = if nat_le (length text) most then escaped text else escaped (take most text) ++ codes "&#8230;"

-- bytes in a picture, of which no more than so many are shown
abbrev pub shown_short : ℕ → List ℕ → List ℕ
shown_short most bytes = cut_words most (shown bytes)

-- the byte neither begins nor ends a tag or the value of an attribute
abbrev pub is_plain : ℕ → Bool
is_plain b = not (b == 60) && not (b == 62) && not (b == 34) && not (b == 39)

-- the byte is printed: it stands from the space to `~`
abbrev pub is_printed : ℕ → Bool
is_printed b = nat_le 32 b && nat_le b 126
