-- What an order that writes records is made of: the octets that it brings, the call that it makes with them, and the word that tells of it.
-- Assumes nothing.
use Rattle.std.specs.Prelude.{ℕ, List, []}
use Rattle.meaning.specs.Card.{Card}
use Rattle.meaning.specs.Events.{Out, event, receive, join, leave, route, lost}
use Rattle.meaning.specs.Notice.{notice}
use Rattle.bench_words.specs.Words.{ascii, part, octets_of}
use Rattle.bench_words.specs.declared.Word.{Word}
use Rattle.bench_orders.specs.declared.Order.{Order}

-- an order of another kind, and one with no HEX, brings none
unfoldable pub no_hex : Word
no_hex = record { start = 0; end = 0 }

unfoldable pub hex_in : Order → Word
hex_in Order.Blank = no_hex
hex_in Order.Bad = no_hex
hex_in (Order.Start n) = no_hex
hex_in (Order.Room n) = no_hex
hex_in (Order.Take n w) = w
hex_in (Order.Join w) = w
hex_in (Order.Leave w) = w
hex_in (Order.Route w n) = w
hex_in (Order.Label n) = no_hex
hex_in (Order.Tree w) = no_hex
hex_in Order.Free = no_hex
hex_in (Order.Notice n k w) = w
hex_in (Order.Save b) = no_hex
hex_in (Order.Restore b w) = no_hex
hex_in (Order.Lost n) = no_hex
hex_in (Order.Move b w) = no_hex
hex_in (Order.Layers w) = no_hex
hex_in (Order.Wrap r d w) = no_hex
hex_in (Order.Unwrap w) = no_hex
hex_in (Order.Plan n w) = no_hex
hex_in (Order.Vet n p w) = no_hex

unfoldable pub held_in : List ℕ → Order → List ℕ
held_in l o = octets_of (part (hex_in o).start (hex_in o).end l)

-- an order of another kind makes none of these calls
unfoldable pub no_call : Card → Out
no_call c = record { answer = 0; octets = []; card = c }

unfoldable pub call_of : ℕ → Card → Order → List ℕ → Out
call_of room c Order.Blank o = no_call c
call_of room c Order.Bad o = no_call c
call_of room c (Order.Start n) o = no_call c
call_of room c (Order.Room n) o = no_call c
call_of room c (Order.Take n w) o = event room c (receive n o)
call_of room c (Order.Join w) o = event room c (join o)
call_of room c (Order.Leave w) o = event room c (leave o)
call_of room c (Order.Route w n) o = event room c (route o n)
call_of room c (Order.Label n) o = no_call c
call_of room c (Order.Tree w) o = no_call c
call_of room c Order.Free o = no_call c
call_of room c (Order.Notice n k w) o = notice room c n k o
call_of room c (Order.Save b) o = no_call c
call_of room c (Order.Restore b w) o = no_call c
call_of room c (Order.Lost n) o = event room c (lost n)
call_of room c (Order.Move b w) o = no_call c
call_of room c (Order.Layers w) o = no_call c
call_of room c (Order.Wrap r d w) o = no_call c
call_of room c (Order.Unwrap w) o = no_call c
call_of room c (Order.Plan n w) o = no_call c
call_of room c (Order.Vet n p w) o = no_call c

unfoldable pub word_of : Order → List ℕ
word_of Order.Blank = []
word_of Order.Bad = []
word_of (Order.Start n) = []
word_of (Order.Room n) = []
word_of (Order.Take n w) = ascii "take"
word_of (Order.Join w) = ascii "join"
word_of (Order.Leave w) = ascii "leave"
word_of (Order.Route w n) = ascii "route"
word_of (Order.Label n) = []
word_of (Order.Tree w) = []
word_of Order.Free = []
word_of (Order.Notice n k w) = ascii "notice"
word_of (Order.Save b) = []
word_of (Order.Restore b w) = []
word_of (Order.Lost n) = ascii "lost"
word_of (Order.Move b w) = []
word_of (Order.Layers w) = []
word_of (Order.Wrap r d w) = []
word_of (Order.Unwrap w) = []
word_of (Order.Plan n w) = []
word_of (Order.Vet n p w) = []
