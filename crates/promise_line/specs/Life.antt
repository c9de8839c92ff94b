-- THE LIFE OF ONE LABEL on the line: what the giver has noted of it, what is under way about it, and where the user lists it. By itself, with no table.
-- Assumes nothing.
use Rattle.std.specs.Prelude.{ℕ, ◌≡◌, refl, Bool, true, false, List, [], ◌∷◌, ◌++◌, eqb}
use Rattle.std.proofs.Common.{arith, sym, ap, ◌∙◌, subst, eqb-true, eq-eqb}
use Rattle.std.proofs.lemmas.Bool.{eqb-false}
use Rattle.meaning.specs.Octets.{pick, count, same}
use Rattle.meaning.specs.Lists.{by-test, same-eq, same_refl, no_way}
use Rattle.meaning.specs.Wire.{mapping, withdraw, release, Message}
use Rattle.promise.specs.Promise.{Given, is_about, is_standing, remove}
use Rattle.promise.specs.PromiseProof.{new_branch}

-- kind k <a, l>
abbrev pub about : ℕ → List ℕ → ℕ → Message
about k a l = record { kind = k; name = a; label = l }

abbrev pub given : ℕ → List ℕ → ℕ → Bool → Given
given q a l w = record { to = q; tree = a; label = l; withdrawn = w }

-- no tree has the label for its branch
abbrev pub Nowhere : ℕ → (List ℕ → ℕ) → Type 0
Nowhere l b = (x : List ℕ) → b x ≡ l → ⊥

-- none but a has
abbrev pub OnlyAt : ℕ → (List ℕ → ℕ) → List ℕ → Type 0
OnlyAt l b a = (x : List ℕ) → b x ≡ l → x ≡ a

-- The label l at the neighbour q: of the giver's live labels those that are l at q; the Mappings and Withdraws of l under way up; the Releases of l under way down.
-- b: the branch that the user lists for each tree; r: whether the user has refused a message.
pub data Life (l q : ℕ) (b : List ℕ → ℕ) (r : Bool) : List Given → List Message → List Message → Type 0 where
  idle : Nowhere l b → Life l q b r [] [] []
  asked : (a : List ℕ) → Nowhere l b → Life l q b r (given q a l false ∷ []) (about mapping a l ∷ []) []
  standing : (a : List ℕ) → OnlyAt l b a → (r ≡ false → b a ≡ l) → Life l q b r (given q a l false ∷ []) [] []
  hasty : (a : List ℕ) → Nowhere l b → Life l q b r (given q a l true ∷ []) (about mapping a l ∷ about withdraw a l ∷ []) []
  leaving : (a : List ℕ) → OnlyAt l b a → Life l q b r (given q a l true ∷ []) (about withdraw a l ∷ []) []
  going : (a : List ℕ) → Nowhere l b → Life l q b r (given q a l true ∷ []) [] (about release a l ∷ [])
  stranded : (a : List ℕ) → OnlyAt l b a → (r ≡ false → Nowhere l b) → Life l q b r (given q a l true ∷ []) [] []

-- the branches change, but not where the label is; a refusal is not taken back
pub life-eq : {l q : ℕ} {b c : List ℕ → ℕ} {r s : Bool} {gs : List Given} {ups downs : List Message}
    → ((x : List ℕ) → c x ≡ l → b x ≡ l) → (s ≡ false → (x : List ℕ) → b x ≡ l → c x ≡ l) → (s ≡ false → r ≡ false)
    → Life l q b r gs ups downs → Life l q c s gs ups downs
life-eq back on ok (idle n) = idle (λ x e. n x (back x e))
life-eq back on ok (asked a n) = asked a (λ x e. n x (back x e))
life-eq back on ok (standing a o k) = standing a (λ x e. o x (back x e)) (λ z. on z a (k (ok z)))
life-eq back on ok (hasty a n) = hasty a (λ x e. n x (back x e))
life-eq back on ok (leaving a o) = leaving a (λ x e. o x (back x e))
life-eq back on ok (going a n) = going a (λ x e. n x (back x e))
life-eq back on ok (stranded a o n) = stranded a (λ x e. o x (back x e)) (λ z x e. n (ok z) x (back x e))

-- (one label that is noted is no other, and not none)
pub list-apart : {g : Given} → [] ≡ g ∷ [] → ⊥
list-apart e = cc

pub same-tree : (q l : ℕ) (x a : List ℕ) (w v : Bool) → given q x l w ∷ [] ≡ given q a l v ∷ [] → x ≡ a
same-tree q l x a w v e = let g : given q x l w ≡ given q a l v = cc in ap (λ (y : Given). y.tree) g

pub same-mark : (q l : ℕ) (x a : List ℕ) (w v : Bool) → given q x l w ∷ [] ≡ given q a l v ∷ [] → w ≡ v
same-mark q l x a w v e = let g : given q x l w ≡ given q a l v = cc in ap (λ (y : Given). y.withdrawn) g

-- ---- the giver

-- it sends Mapping of a label that is not live
pub life_map : {l q : ℕ} {b : List ℕ → ℕ} {r : Bool} {ups downs : List Message} (a : List ℕ) → Life l q b r [] ups downs → Life l q b r (given q a l false ∷ []) (ups ++ (about mapping a l ∷ [])) downs
life_map a (idle n) = asked a n

-- it sends Withdraw of one that is mapped
pub life-end : {l q : ℕ} {b : List ℕ → ℕ} {r : Bool} {ups downs : List Message} (a : List ℕ) → Life l q b r (given q a l false ∷ []) ups downs → Life l q b r (given q a l true ∷ []) (ups ++ (about withdraw a l ∷ [])) downs
life-end a h = end-of a refl h
  where
    -- of whatever list is equal to the one that is noted
    end-of : {l q : ℕ} {b : List ℕ → ℕ} {r : Bool} {gs : List Given} {ups downs : List Message} (a : List ℕ) → gs ≡ given q a l false ∷ [] → Life l q b r gs ups downs → Life l q b r (given q a l true ∷ []) (ups ++ (about withdraw a l ∷ [])) downs
    end-of a e (idle n) = absurd (list-apart e)
    end-of {l} {q} {b} {r} a e (asked x n) = subst (λ (t : List ℕ). Life l q b r (given q t l true ∷ []) (about mapping x l ∷ about withdraw t l ∷ []) []) (same-tree q l x a false false e) (hasty x n)
    end-of {l} {q} {b} {r} a e (standing x o k) = subst (λ (t : List ℕ). Life l q b r (given q t l true ∷ []) (about withdraw t l ∷ []) []) (same-tree q l x a false false e) (leaving x o)
    end-of {l} {q} a e (hasty x n) = no_way (same-mark q l x a true false e)
    end-of {l} {q} a e (leaving x o) = no_way (same-mark q l x a true false e)
    end-of {l} {q} a e (going x n) = no_way (same-mark q l x a true false e)
    end-of {l} {q} a e (stranded x o n) = no_way (same-mark q l x a true false e)

-- (a label that is mapped is noted so, once)
one-standing : (l q k : ℕ) (a x : List ℕ) (w : Bool) → count (is_standing q (about k a l)) (given q x l w ∷ []) ≡ 1 → given q x l w ∷ [] ≡ given q a l false ∷ []
unfolding count is_standing is_about
one-standing l q k a x w e =
    by-test (same x a)
    (λ s. by-test w
    (λ h. absurd (let z : ◌≡◌ {A = ℕ} 0 1 = rw (eq-eqb l l refl, eq-eqb q q refl, s, h) at e in omega arith))
    (λ h. rw (same-eq x a s, h) refl))
    (λ s. absurd (let z : ◌≡◌ {A = ℕ} 0 1 = rw (eq-eqb l l refl, eq-eqb q q refl, s) at e in omega arith))

pub life-standing : {l q : ℕ} {b : List ℕ → ℕ} {r : Bool} {gs : List Given} {ups downs : List Message} (k : ℕ) (a : List ℕ) → Life l q b r gs ups downs → count (is_standing q (about k a l)) gs ≡ 1 → gs ≡ given q a l false ∷ []
life-standing k a (idle n) e = absurd (let z : ◌≡◌ {A = ℕ} 0 1 = unfold count in e in omega arith)
life-standing {l} {q} k a (asked x n) e = one-standing l q k a x false e
life-standing {l} {q} k a (standing x o z) e = one-standing l q k a x false e
life-standing {l} {q} k a (hasty x n) e = one-standing l q k a x true e
life-standing {l} {q} k a (leaving x o) e = one-standing l q k a x true e
life-standing {l} {q} k a (going x n) e = one-standing l q k a x true e
life-standing {l} {q} k a (stranded x o n) e = one-standing l q k a x true e

-- it takes the Release
pub life-freed : {l q : ℕ} {b : List ℕ → ℕ} {r : Bool} {gs : List Given} {ups downs : List Message} {m : Message} → Life l q b r gs ups (m ∷ downs) → Life l q b r (remove q m gs) ups downs
unfolding remove is_about
life-freed {l} {q} (going a n) = rw (eq-eqb l l refl, eq-eqb q q refl, same_refl a) (idle n)

-- or refuses it
pub life-lost : {l q : ℕ} {b : List ℕ → ℕ} {r : Bool} {gs : List Given} {ups downs : List Message} {m : Message} → Life l q b r gs ups (m ∷ downs) → Life l q b r gs ups downs
life-lost (going a n) = stranded a (λ x e. absurd (n x e)) (λ _. n)

-- ---- the user

-- what a message of its neighbour, once taken, makes of the branches from there
unfoldable pub said : Message → (List ℕ → ℕ) → List ℕ → ℕ
said m b x = pick (same m.name x) (new_branch m (b x)) (b x)

-- the Release that it sends
unfoldable pub reply_to : Message → List Message
reply_to m = pick (eqb m.kind withdraw) (about release m.name m.label ∷ []) []

said-mapping : (l : ℕ) (a : List ℕ) (b : List ℕ → ℕ) (x : List ℕ) → said (about mapping a l) b x ≡ pick (same a x) l (b x)
unfolding said new_branch
said-mapping l a b x = refl

said-withdraw : (l : ℕ) (a : List ℕ) (b : List ℕ → ℕ) (x : List ℕ) → said (about withdraw a l) b x ≡ pick (same a x) (pick (eqb (b x) l) 0 (b x)) (b x)
unfolding said new_branch
said-withdraw l a b x = refl

-- a Mapping of the label is taken
put_only : (l : ℕ) (a : List ℕ) (b : List ℕ → ℕ) → Nowhere l b → OnlyAt l (said (about mapping a l) b) a
put_only l a b n x e =
    by-test (same a x)
    (λ k. sym (same-eq a x k))
    (λ k. absurd (n x (rw (said-mapping l a b x, k) at e)))

put-at : (l : ℕ) (a : List ℕ) (b : List ℕ → ℕ) → said (about mapping a l) b a ≡ l
put-at l a b = said-mapping l a b a ∙ rw (same_refl a) refl

-- a Withdraw of it
cut-none : (l : ℕ) (a : List ℕ) (b : List ℕ → ℕ) → (l ≡ 0 → ⊥) → OnlyAt l b a → Nowhere l (said (about withdraw a l) b)
cut-none l a b nz o x e =
    by-test (same a x)
    (λ k. by-test (eqb (b x) l)
    (λ h. nz (sym (rw (said-withdraw l a b x, k, h) at e)))
    (λ h. eqb-false (b x) l h (rw (said-withdraw l a b x, k, h) at e)))
    (λ k. let z : b x ≡ l = rw (said-withdraw l a b x, k) at e in
    let y : x ≡ a = o x z in
    no_way (sym (same_refl a) ∙ ap (same a) (sym y) ∙ k))

pub life-heard : {l q : ℕ} {b : List ℕ → ℕ} {r : Bool} {gs : List Given} {ups downs : List Message} {m : Message} → (l ≡ 0 → ⊥) → Life l q b r gs (m ∷ ups) downs → Life l q (said m b) r gs ups (downs ++ reply_to m)
unfolding reply_to
life-heard {l} {b = b} nz (asked a n) = standing a (put_only l a b n) (λ _. put-at l a b)
life-heard {l} {b = b} nz (hasty a n) = leaving a (put_only l a b n)
life-heard {l} {b = b} nz (leaving a o) = going a (cut-none l a b nz o)

-- or it refuses the message
pub life-missed : {l q : ℕ} {b : List ℕ → ℕ} {r : Bool} {gs : List Given} {ups downs : List Message} {m : Message} → Life l q b r gs (m ∷ ups) downs → Life l q b true gs ups downs
life-missed (asked a n) = standing a (λ x e. absurd (n x e)) (λ z. no_way z)
life-missed (hasty a n) = leaving a (λ x e. absurd (n x e))
life-missed (leaving a o) = stranded a o (λ z. no_way z)

branch-other : (l : ℕ) (m : Message) (before : ℕ) → (l ≡ 0 → ⊥) → (m.label ≡ l → ⊥) → (m.kind ≡ mapping → before ≡ l → ⊥)
    → (new_branch m before ≡ l → before ≡ l) × (before ≡ l → new_branch m before ≡ l)
unfolding new_branch
branch-other l m before nz d free =
    by-test (eqb m.kind mapping)
    (λ k. rw k ((λ e. absurd (d e)), (λ e. absurd (free (eqb-true m.kind mapping k) e))))
    (λ k. by-test (eqb m.kind withdraw)
    (λ w. by-test (eqb before m.label)
    (λ h. rw (k, w, h) ((λ e. absurd (nz (sym e))), (λ e. absurd (d (sym (eqb-true before m.label h) ∙ e)))))
    (λ h. rw (k, w, h) ((λ e. e), (λ e. e))))
    (λ w. rw (k, w) ((λ e. e), (λ e. e))))

said-other : (l : ℕ) (m : Message) (b : List ℕ → ℕ) → (l ≡ 0 → ⊥) → (m.label ≡ l → ⊥) → (m.kind ≡ mapping → b m.name ≡ l → ⊥)
    → (x : List ℕ) → (said m b x ≡ l → b x ≡ l) × (b x ≡ l → said m b x ≡ l)
unfolding said
said-other l m b nz d free x =
    by-test (same m.name x)
    (λ k. rw k (branch-other l m (b x) nz d (λ e. subst (λ (y : List ℕ). b y ≡ l → ⊥) (same-eq m.name x k) (free e))))
    (λ k. rw k ((λ e. e), (λ e. e)))

-- a message of another label: a Mapping is refused where the branch stands with another
pub life-other : {l q : ℕ} {b : List ℕ → ℕ} {r : Bool} {gs : List Given} {ups downs : List Message} (m : Message) → (l ≡ 0 → ⊥) → (m.label ≡ l → ⊥)
    → (m.kind ≡ mapping → b m.name ≡ l → ⊥) → Life l q b r gs ups downs → Life l q (said m b) r gs ups downs
life-other {l} {b = b} m nz d free = life-eq (λ x. (said-other l m b nz d free x).0) (λ _ x. (said-other l m b nz d free x).1) (λ z. z)

-- a message that is neither Mapping nor Withdraw
pub life-deaf : {l q : ℕ} {b : List ℕ → ℕ} {r : Bool} {gs : List Given} {ups downs : List Message} (m : Message) → eqb m.kind mapping ≡ false → eqb m.kind withdraw ≡ false
    → Life l q b r gs ups downs → Life l q (said m b) r gs ups downs
unfolding said new_branch
life-deaf {l} {b = b} m k w = life-eq (λ x. (stays x).0) (λ _ x. (stays x).1) (λ z. z)
  where
    stays : (x : List ℕ) → (said m b x ≡ l → b x ≡ l) × (b x ≡ l → said m b x ≡ l)
    stays x = rw (k, w) (by-test (same m.name x) (λ h. rw h ((λ e. e), (λ e. e))) (λ h. rw h ((λ e. e), (λ e. e))))
