-- The text of the bindings as their words have it, which the lent slice holds: word for word, where a word is a tag or the number that belongs to
-- the tag before it. proofs/Texts.antt has that it is the text of the types and bindings which they spell.
use Rattle.std.specs.Prelude.{List, [], ◌∷◌, ◌++◌, ℕ, ◌==◌, ◌||◌, nat_lt, if◌then◌else◌, codes, None, Option, Some}
use Rattle.std.specs.Fmt.{decimal}

-- a tag's; of a binding's, which is behind another binding, the end of the line before it too
unfoldable pub tag_text : ℕ → List ℕ
tag_text a =
    if a == 1 then codes " Int"
    else (if a == 2 then codes " String"
    else (if a == 3 then codes " Bytes"
    else (if a == 4 then codes " fact "
    else (if a == 5 then codes " record "
    else (if a == 6 then codes " union "
    else (if a == 7 then codes " ?"
    else (if a == 8 then codes " Error"
    else (if a == 9 then codes " ."
    else (if a == 10 then codes " |"
    else codes "\n?")))))))))

-- what stands behind a tag's number
unfoldable pub after_number : ℕ → List ℕ
after_number a = if a == 11 then codes " =" else []

-- A word's, behind a tag that has a number or behind none such.
unfoldable pub word_text : Option ℕ → ℕ → List ℕ
unfolding tag_text after_number
word_text None a = tag_text a
word_text (Some a) n = decimal n ++ after_number a

-- the tag whose number is next
unfoldable pub owing : Option ℕ → ℕ → Option ℕ
owing None a = if nat_lt a 4 || (a == 8) then None else Some a
owing (Some a) n = None

unfoldable pub words_text : Option ℕ → List ℕ → List ℕ
unfolding word_text owing
words_text tag [] = []
words_text tag (w ∷ ws) = word_text tag w ++ words_text (owing tag w) ws
