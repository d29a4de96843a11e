-- What `set_con` and `con` reply: a number of the rules, with the values beside it. A link is the layer that it leads to, or `None` where it is empty.
use Rattle.std.specs.Prelude.{Bool, false, cond, ◌||◌, List, [], ◌∷◌, ℕ, Option, Some, None, Result, Ok, Err, ltb, eqb}
use Rattle.replies.specs.Said.{Said, Value, whole, say, just}
use Rattle.compact_span.specs.declared.CompactSpan.{CompactSpan}
use Rattle.compact_span.specs.declared.NoLink.{NoLink}
use Rattle.compact_span.specs.Word.{empty_mark}
use Rattle.compact_span.specs.Span.{link_at, with_link}

-- a link and its number in the word
abbrev pub number_of : Option ℕ → ℕ
number_of None = empty_mark
number_of (Some l) = l

abbrev pub link_of : ℕ → Option ℕ
link_of n = cond (eqb n empty_mark) None (Some n)

-- acceptance, with both fields of a span, and with the layer of a link, where it has one
abbrev pub span_said : CompactSpan → Said
span_said s = say 0 (whole s.y ∷ whole s.«data» ∷ [])

abbrev pub layer_of : Option ℕ → List Value
layer_of None = []
layer_of (Some l) = whole l ∷ []

abbrev pub link_said : Option ℕ → Said
link_said l = say 0 (layer_of l)

-- what each answer says
abbrev pub said_of_linked : Result CompactSpan NoLink → Said
said_of_linked (Ok s) = span_said s
said_of_linked (Err e) = just 13

abbrev pub said_of_con : Result (Option ℕ) NoLink → Said
said_of_con (Ok l) = link_said l
said_of_con (Err e) = just 13

-- whether a link's layer is above 62; an empty link has none
abbrev pub too_high : Option ℕ → Bool
too_high None = false
too_high (Some l) = ltb 62 l

-- a link is set: refused for a direction above 3 or a layer above 62
abbrev pub set_con_says : CompactSpan → ℕ → Option ℕ → Said
set_con_says s d l = cond (ltb 3 d || too_high l) (just 13) (span_said (with_link s d (number_of l)))

-- a link is read: refused for a direction above 3
abbrev pub con_says : CompactSpan → ℕ → Said
con_says s d = cond (ltb 3 d) (just 13) (link_said (link_of (link_at s d)))
