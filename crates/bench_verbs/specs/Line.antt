-- What a line of the bench program says. Assumes nothing.
use Rattle.std.specs.Prelude.{ℕ, ◌*◌, Bool, true, false, List, [], ◌∷◌, length, leb}
use Rattle.meaning.specs.Octets.{pick, same}
use Rattle.meaning_save.specs.Save.{Form, form_of, save_limit}
use Rattle.bench_words.specs.Words.{ascii, words, value, is_number, is_hex_to, is_hex, octets_of}
use Rattle.bench_verbs.specs.declared.Verb.{Verb}

-- A save is of a form; a move is from it to the other one.
pub data Said : Type 0 where
  nothing bad free : Said
  start room label lost : ℕ → Said
  take plan : ℕ → List ℕ → Said
  join leave tree layers unwrap : List ℕ → Said
  route : List ℕ → ℕ → Said
  notice : ℕ → ℕ → List ℕ → Said
  wrap : List ℕ → List ℕ → List ℕ → Said
  vet : ℕ → List ℕ → List ℕ → Said
  save : Form → Said
  restore moves : Form → List ℕ → Said

unfoldable pub plan_verb : List ℕ → Verb
plan_verb w = pick (same w (ascii "plan")) Verb.Plan (pick (same w (ascii "vet")) Verb.Vet Verb.Other)

unfoldable pub layer_verb : List ℕ → Verb
layer_verb w =
    pick (same w (ascii "layers")) Verb.Layers
    (pick (same w (ascii "wrap")) Verb.Wrap
    (pick (same w (ascii "unwrap")) Verb.Unwrap
    (plan_verb w)))

unfoldable pub save_verb : List ℕ → Verb
save_verb w =
    pick (same w (ascii "save")) (Verb.Save false)
    (pick (same w (ascii "restore")) (Verb.Restore false)
    (pick (same w (ascii "save2")) (Verb.Save true)
    (pick (same w (ascii "restore2")) (Verb.Restore true)
    (pick (same w (ascii "newer")) (Verb.Move false)
    (pick (same w (ascii "older")) (Verb.Move true)
    (layer_verb w))))))

unfoldable pub requested_verb : List ℕ → Verb
requested_verb w =
    pick (same w (ascii "notice")) Verb.Notice
    (pick (same w (ascii "lost")) Verb.Lost
    (save_verb w))

unfoldable pub verb_of : List ℕ → Verb
verb_of w =
    pick (same w (ascii "start")) Verb.Start
    (pick (same w (ascii "room")) Verb.Room
    (pick (same w (ascii "take")) Verb.Take
    (pick (same w (ascii "join")) Verb.Join
    (pick (same w (ascii "leave")) Verb.Leave
    (pick (same w (ascii "route")) Verb.Route
    (pick (same w (ascii "label")) Verb.Label
    (pick (same w (ascii "tree")) Verb.Tree
    (pick (same w (ascii "free")) Verb.Free
    (requested_verb w)))))))))

unfoldable pub with_number : (ℕ → Said) → List (List ℕ) → Said
with_number f [] = bad
with_number f (w ∷ []) = pick (is_number w) (f (value w)) bad
with_number f (w ∷ v ∷ ws) = bad

unfoldable pub with_hex : (List ℕ → Said) → List (List ℕ) → Said
with_hex f [] = bad
with_hex f (w ∷ []) = pick (is_hex w) (f (octets_of w)) bad
with_hex f (w ∷ v ∷ ws) = bad

-- for no more octets than the longest save of the form: 23343 or 55667
unfoldable pub is_save_hex : Form → List ℕ → Bool
is_save_hex f w = is_hex_to (2 * save_limit f) w

unfoldable pub with_save : (Form → List ℕ → Said) → Form → List (List ℕ) → Said
with_save g f [] = bad
with_save g f (w ∷ []) = pick (is_save_hex f w) (g f (octets_of w)) bad
with_save g f (w ∷ v ∷ ws) = bad

unfoldable pub with_number_hex : (ℕ → List ℕ → Said) → List (List ℕ) → Said
with_number_hex f [] = bad
with_number_hex f (n ∷ ws) = pick (is_number n) (with_hex (f (value n)) ws) bad

unfoldable pub with_hex_number : (List ℕ → ℕ → Said) → List (List ℕ) → Said
with_hex_number f [] = bad
with_hex_number f (h ∷ ws) = pick (is_hex h) (with_number (f (octets_of h)) ws) bad

unfoldable pub with_numbers_hex : (ℕ → ℕ → List ℕ → Said) → List (List ℕ) → Said
with_numbers_hex f [] = bad
with_numbers_hex f (n ∷ ws) = pick (is_number n) (with_number_hex (f (value n)) ws) bad

unfoldable pub with_two_hex : (List ℕ → List ℕ → Said) → List (List ℕ) → Said
with_two_hex f [] = bad
with_two_hex f (h ∷ ws) = pick (is_hex h) (with_hex (f (octets_of h)) ws) bad

unfoldable pub with_three_hex : (List ℕ → List ℕ → List ℕ → Said) → List (List ℕ) → Said
with_three_hex f [] = bad
with_three_hex f (h ∷ ws) = pick (is_hex h) (with_two_hex (f (octets_of h)) ws) bad

unfoldable pub with_number_two_hex : (ℕ → List ℕ → List ℕ → Said) → List (List ℕ) → Said
with_number_two_hex f [] = bad
with_number_two_hex f (n ∷ ws) = pick (is_number n) (with_two_hex (f (value n)) ws) bad

unfoldable pub does : Verb → List (List ℕ) → Said
does Verb.Start ws = with_number start ws
does Verb.Room ws = with_number room ws
does Verb.Take ws = with_number_hex take ws
does Verb.Join ws = with_hex join ws
does Verb.Leave ws = with_hex leave ws
does Verb.Route ws = with_hex_number route ws
does Verb.Label ws = with_number label ws
does Verb.Tree ws = with_hex tree ws
does Verb.Free [] = free
does Verb.Free (w ∷ ws) = bad
does Verb.Notice ws = with_numbers_hex notice ws
does (Verb.Save second) [] = save (form_of second)
does (Verb.Save second) (w ∷ ws) = bad
does (Verb.Restore second) ws = with_save restore (form_of second) ws
does Verb.Lost ws = with_number lost ws
does (Verb.Move second) ws = with_save moves (form_of second) ws
does Verb.Layers ws = with_hex layers ws
does Verb.Wrap ws = with_three_hex wrap ws
does Verb.Unwrap ws = with_hex unwrap ws
does Verb.Plan ws = with_number_hex plan ws
does Verb.Vet ws = with_number_two_hex vet ws
does Verb.Other ws = bad

unfoldable pub said_by : List (List ℕ) → Said
said_by [] = nothing
said_by (w ∷ ws) = does (verb_of w) ws

-- the longest line has a place for the digits of the longest save, and for the word before them
abbrev pub line_limit : ℕ
line_limit = 131072

-- what a line says; one of more than 131072 octets is bad whatever it holds
unfoldable pub order_of : List ℕ → Said
order_of l = pick (leb (length l) line_limit) (said_by (words l)) bad
