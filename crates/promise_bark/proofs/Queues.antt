-- WHAT IS UNDER WAY TO ONE BOX over one line: packets, and the Releases behind them.
-- Assumes nothing.
use Rattle.std.specs.Prelude.{ℕ, zero, suc, Bool, false}
use native.Mathlib.Omega.{arith}
use Rattle.std.proofs.Math.Path.{◌≡◌, refl, subst}
use Rattle.std.proofs.Common.{sym, ap, ◌∙◌}
use Rattle.std.proofs.Math.Bool.{true, not}
use mathlib.Core.List.{List, [], ◌∷◌, ◌++◌}
use Rattle.meaning.specs.Octets.{pick}
use Rattle.meaning.specs.Lists.{by-test, picked}
use Rattle.meaning.specs.Wire.{message_in}
use Rattle.promise.specs.Promise.{Given}
use Rattle.promise_line.specs.Sends.{is_down, kin}
use Rattle.promise_bark.specs.Bark.{Item, letter, packet, letters, messages, may_pass, passed, EachPacket, Alive}
use Rattle.promise_bark.specs.Queues.{Orderly}

-- ---- each packet

pub each_of : (P Q : List ℕ → ℕ → Type 0) → ((a : List ℕ) (l : ℕ) → P a l → Q a l) → (xs : List Item) → EachPacket P xs → EachPacket Q xs
unfolding EachPacket
each_of P Q f [] h = tt
each_of P Q f (letter s ∷ xs) h = each_of P Q f xs h
each_of P Q f (packet a l ∷ xs) h = (f a l h.0, each_of P Q f xs h.1)

pub each_both : (P Q R : List ℕ → ℕ → Type 0) → ((a : List ℕ) (l : ℕ) → P a l → Q a l → R a l) → (xs : List Item) → EachPacket P xs → EachPacket Q xs → EachPacket R xs
unfolding EachPacket
each_both P Q R f [] h k = tt
each_both P Q R f (letter s ∷ xs) h k = each_both P Q R f xs h k
each_both P Q R f (packet a l ∷ xs) h k = (f a l h.0 k.0, each_both P Q R f xs h.1 k.1)

pub each_all : (P : List ℕ → ℕ → Type 0) → ((a : List ℕ) (l : ℕ) → P a l) → (xs : List Item) → EachPacket P xs
unfolding EachPacket
each_all P f [] = tt
each_all P f (letter s ∷ xs) = each_all P f xs
each_all P f (packet a l ∷ xs) = (f a l, each_all P f xs)

pub each_append : (P : List ℕ → ℕ → Type 0) (xs ys : List Item) → EachPacket P xs → EachPacket P ys → EachPacket P (xs ++ ys)
unfolding EachPacket
each_append P [] ys h k = k
each_append P (letter s ∷ xs) ys h k = each_append P xs ys h k
each_append P (packet a l ∷ xs) ys h k = (h.0, each_append P xs ys h.1 k)

pub each-letters : (P : List ℕ → ℕ → Type 0) (ms : List (List ℕ)) → EachPacket P (letters ms)
unfolding EachPacket letters
each-letters P [] = tt
each-letters P (s ∷ ss) = each-letters P ss

-- ---- messages

pub messages-append : (xs ys : List Item) → messages (xs ++ ys) ≡ messages xs ++ messages ys
unfolding messages
messages-append [] ys = refl
messages-append (letter s ∷ xs) ys = ap (λ (ms : List (List ℕ)). s ∷ ms) (messages-append xs ys)
messages-append (packet a l ∷ xs) ys = messages-append xs ys

pub messages-letters : (ms : List (List ℕ)) → messages (letters ms) ≡ ms
unfolding messages letters
messages-letters [] = refl
messages-letters (s ∷ ss) = ap (λ (ms : List (List ℕ)). s ∷ ms) (messages-letters ss)

pub orderly-live : (q : ℕ) (gs : List Given) (xs : List Item) → Orderly q gs xs → EachPacket (Alive q gs) xs
unfolding Orderly EachPacket
orderly-live q gs [] h = tt
orderly-live q gs (letter s ∷ xs) h = orderly-live q gs xs h.1
orderly-live q gs (packet a l ∷ xs) h = (h.0, orderly-live q gs xs h.1)

-- other labels are live
pub orderly-map : (q : ℕ) (gs hs : List Given) (P : List ℕ → ℕ → Type 0) → ((a : List ℕ) (l : ℕ) → P a l → Alive q gs a l → Alive q hs a l) → (xs : List Item) → EachPacket P xs → Orderly q gs xs → Orderly q hs xs
unfolding Orderly EachPacket
orderly-map q gs hs P f [] k h = tt
orderly-map q gs hs P f (letter s ∷ xs) k h = (h.0, orderly-map q gs hs P f xs k h.1)
orderly-map q gs hs P f (packet a l ∷ xs) k h = (f a l k.0 h.0, orderly-map q gs hs P f xs k.1 h.1)

-- more is under way: no packet on a label whose Release is
kin-later : (l : ℕ) (s : List ℕ) (ss : List (List ℕ)) → kin (is_down l) (s ∷ ss) ≡ [] → (is_down l (message_in s) ≡ true → ⊥) × (kin (is_down l) ss ≡ [])
unfolding kin
kin-later l s ss e =
    by-test (is_down l (message_in s))
    (λ d. let z : message_in s ∷ kin (is_down l) ss ≡ [] = rw d at e in absurd (let z' : ◌≡◌ {A = ℕ} 0 1 = cc in omega arith))
    (λ d. ((λ k. let z : true ≡ false = sym k ∙ d in let z' : ◌≡◌ {A = ℕ} 0 1 = cc in omega arith), rw d at e))

pub orderly-append : (q : ℕ) (gs : List Given) (xs ys : List Item) → Orderly q gs xs → Orderly q gs ys → EachPacket (λ a l. kin (is_down l) (messages xs) ≡ []) ys → Orderly q gs (xs ++ ys)
unfolding Orderly messages
orderly-append q gs [] ys h k c = k
orderly-append q gs (letter s ∷ xs) ys h k c = (
  (λ l d. each_append _ xs ys (h.0 l d) (each_of _ (λ a m. m ≡ l → ⊥) (λ a m e z. (kin-later m s (messages xs) e).0 (rw z d)) ys c)),
  orderly-append q gs xs ys h.1 k (each_of _ _ (λ a m e. (kin-later m s (messages xs) e).1) ys c),
)
orderly-append q gs (packet a l ∷ xs) ys h k c = (h.0, orderly-append q gs xs ys h.1 k c)

pub orderly-letters : (q : ℕ) (gs : List Given) (ms : List (List ℕ)) → Orderly q gs (letters ms)
unfolding Orderly letters
orderly-letters q gs [] = tt
orderly-letters q gs (s ∷ ss) = ((λ l d. each-letters _ ss), orderly-letters q gs ss)

-- ---- what overtakes

module _ (xs : List Item) where
  messages-two : (x y : Item) → messages (pick (may_pass x y) (y ∷ x ∷ xs) (x ∷ y ∷ xs)) ≡ messages (x ∷ y ∷ xs)
  unfolding messages may_pass
  messages-two (letter s) (letter t) = refl
  messages-two (letter s) (packet b k) = refl
  messages-two (packet a l) (letter t) = picked (λ (zs : List Item). messages zs ≡ t ∷ messages xs) (may_pass (packet a l) (letter t)) (λ _. refl) (λ _. refl)
  messages-two (packet a l) (packet b k) = refl

  each_two : (P : List ℕ → ℕ → Type 0) (x y : Item) → EachPacket P (x ∷ y ∷ xs) → EachPacket P (y ∷ x ∷ xs)
  unfolding EachPacket
  each_two P (letter s) (letter t) h = h
  each_two P (letter s) (packet b k) h = h
  each_two P (packet a l) (letter t) h = h
  each_two P (packet a l) (packet b k) h = (h.1.0, (h.0, h.1.1))

  orderly-two : (q : ℕ) (gs : List Given) (x y : Item) → may_pass x y ≡ true → Orderly q gs (x ∷ y ∷ xs) → Orderly q gs (y ∷ x ∷ xs)
  unfolding may_pass Orderly EachPacket
  orderly-two q gs (letter s) (letter t) e h = absurd (let z : ◌≡◌ {A = ℕ} 0 1 = cc in omega arith)
  orderly-two q gs (letter s) (packet b k) e h = (h.1.0, ((λ l d. (h.0 l d).1), h.1.1))
  orderly-two q gs (packet a l) (letter t) e h = ((λ k d. ((λ z. kept_back k d z), h.1.0 k d)), (h.0, h.1.1))
    where
      kept_back : (k : ℕ) → is_down k (message_in t) ≡ true → l ≡ k → ⊥
      kept_back k d z = let f : not true ≡ true = subst (λ (b : Bool). not b ≡ true) (ap (λ (m : ℕ). is_down m (message_in t)) z ∙ d) e in let z' : ◌≡◌ {A = ℕ} 0 1 = cc in omega arith
  orderly-two q gs (packet a l) (packet b k) e h = (h.1.0, (h.0, h.1.1))

pub messages-passed : (n : ℕ) (xs : List Item) → messages (passed n xs) ≡ messages xs
unfolding passed messages
messages-passed zero [] = refl
messages-passed zero (x ∷ []) = refl
messages-passed zero (x ∷ y ∷ xs) = messages-two xs x y
messages-passed (suc n) [] = refl
messages-passed (suc n) (letter s ∷ xs) = ap (λ (ms : List (List ℕ)). s ∷ ms) (messages-passed n xs)
messages-passed (suc n) (packet a l ∷ xs) = messages-passed n xs

each-passed : (P : List ℕ → ℕ → Type 0) (n : ℕ) (xs : List Item) → EachPacket P xs → EachPacket P (passed n xs)
unfolding passed EachPacket
each-passed P zero [] h = h
each-passed P zero (x ∷ []) h = h
each-passed P zero (x ∷ y ∷ xs) h = picked (EachPacket P) (may_pass x y) (λ _. each_two xs P x y h) (λ _. h)
each-passed P (suc n) [] h = h
each-passed P (suc n) (letter s ∷ xs) h = each-passed P n xs h
each-passed P (suc n) (packet a l ∷ xs) h = (h.0, each-passed P n xs h.1)

pub orderly-passed : (q : ℕ) (gs : List Given) (n : ℕ) (xs : List Item) → Orderly q gs xs → Orderly q gs (passed n xs)
unfolding passed Orderly
orderly-passed q gs zero [] h = h
orderly-passed q gs zero (x ∷ []) h = h
orderly-passed q gs zero (x ∷ y ∷ xs) h = picked (Orderly q gs) (may_pass x y) (λ e. orderly-two xs q gs x y e h) (λ _. h)
orderly-passed q gs (suc n) [] h = h
orderly-passed q gs (suc n) (letter s ∷ xs) h = ((λ l d. each-passed _ n xs (h.0 l d)), orderly-passed q gs n xs h.1)
orderly-passed q gs (suc n) (packet a l ∷ xs) h = (h.0, orderly-passed q gs n xs h.1)

pub empty-passed : (n : ℕ) (xs : List Item) → xs ≡ [] → passed n xs ≡ []
unfolding passed
empty-passed zero xs e = rw e refl
empty-passed (suc n) xs e = rw e refl
