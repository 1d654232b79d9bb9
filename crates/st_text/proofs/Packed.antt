-- Equal numbers are made of equal bytes.
use Rattle.std.proofs.Common.{◌≡◌, ◌<◌, ◌≤◌, ◌+◌, ◌-◌, ◌++◌, ◌∷◌, [], ℕ, List, length, get_or, take, drop, replicate, zero, suc, refl, sym, ◌∙◌, ap, ap₂, arith}
use Rattle.std.specs.Int.{w64, to_le_bytes}
use Rattle.std.proofs.lemmas.Nat.{le_bytes_8}
use Rattle.std.proofs.lemmas.List.{get_or-drop, take-append-drop, length-drop, length-take, length-take-le, length-append}
use Rattle.std.proofs.Math.Seq.{take-append_seam}
use Rattle.st_text.specs.inner.Packed.{word}

pub word-eq : (a b : List ℕ) → length a ≡ 8 → length b ≡ 8 → ((i : ℕ) → get_or a i 0 < 256) → ((i : ℕ) → get_or b i 0 < 256) → word a ≡ word b → a ≡ b
unfolding word
word-eq a b la lb sa sb e = sym (le_bytes_8 a (word a) la sa refl) ∙ ap (to_le_bytes w64) e ∙ le_bytes_8 b (word b) lb sb refl

six : (rest more : List ℕ) → length rest ≡ 6 → get_or rest 0 0 ∷ get_or rest 1 0 ∷ get_or rest 2 0 ∷ get_or rest 3 0 ∷ get_or rest 4 0 ∷ get_or rest 5 0 ∷ more ≡ rest ++ more
six (a ∷ b ∷ c ∷ d ∷ e ∷ f ∷ []) more l = refl
six [] more l = absurd (omega arith)
six (a ∷ []) more l = absurd (omega arith)
six (a ∷ b ∷ []) more l = absurd (omega arith)
six (a ∷ b ∷ c ∷ []) more l = absurd (omega arith)
six (a ∷ b ∷ c ∷ d ∷ []) more l = absurd (omega arith)
six (a ∷ b ∷ c ∷ d ∷ e ∷ []) more l = absurd (omega arith)
six (a ∷ b ∷ c ∷ d ∷ e ∷ f ∷ g ∷ rest) more l = absurd (omega arith)

pub last-six : (bytes more : List ℕ) → length bytes ≡ 14
    → get_or bytes 8 0 ∷ get_or bytes 9 0 ∷ get_or bytes 10 0 ∷ get_or bytes 11 0 ∷ get_or bytes 12 0 ∷ get_or bytes 13 0 ∷ more ≡ drop 8 bytes
    ++ more
last-six bytes more l =
    let at : (i : ℕ) → get_or bytes (8 + i) 0 ≡ get_or (drop 8 bytes) i 0 = λ i. sym (get_or-drop 8 bytes i 0) in
    (λ i. at 0 i ∷ at 1 i ∷ at 2 i ∷ at 3 i ∷ at 4 i ∷ at 5 i ∷ more) ∙ six (drop 8 bytes) more (omega (arith, length-drop 8 bytes))

abbrev pub AreBytes : List ℕ → Type 0
AreBytes xs = (i : ℕ) → get_or xs i 0 < 256

bytes-take : (n : ℕ) (xs : List ℕ) → AreBytes xs → AreBytes (take n xs)
bytes-take zero xs h i = omega arith
bytes-take (suc n) [] h i = omega arith
bytes-take (suc n) (x ∷ xs) h zero = h 0
bytes-take (suc n) (x ∷ xs) h (suc i) = bytes-take n xs (λ j. h (suc j)) i

bytes-append : (xs ys : List ℕ) → AreBytes xs → AreBytes ys → AreBytes (xs ++ ys)
bytes-append [] ys h g i = g i
bytes-append (x ∷ xs) ys h g zero = h 0
bytes-append (x ∷ xs) ys h g (suc i) = bytes-append xs ys (λ j. h (suc j)) g i

bytes-drop : (n : ℕ) (xs : List ℕ) → AreBytes xs → AreBytes (drop n xs)
bytes-drop n xs h i = rw (get_or-drop n xs i 0) (h (n + i))

bytes-last : AreBytes (0 ∷ 0 ∷ [])
bytes-last zero = omega arith
bytes-last (suc zero) = omega arith
bytes-last (suc (suc i)) = omega arith

front-is : (a : List ℕ) → length a ≡ 6 → take 6 (a ++ 0 ∷ 0 ∷ []) ≡ a
front-is a l = let seam : take (length a) (a ++ 0 ∷ 0 ∷ []) ≡ a = take-append_seam a (0 ∷ 0 ∷ []) in rw l at seam

last-eq : (a b : List ℕ) → length a ≡ 6 → length b ≡ 6 → a ++ 0 ∷ 0 ∷ [] ≡ b ++ 0 ∷ 0 ∷ [] → a ≡ b
last-eq a b la lb e = sym (front-is a la) ∙ ap (take 6) e ∙ front-is b lb

-- stored texts of as many bytes and of the same two numbers are the same
pub packed-eq : (a b : List ℕ) (m n : ℕ) → length a ≡ 14 → length b ≡ 14 → AreBytes a → AreBytes b → m ≡ n
    → word (take 8 a) ≡ word (take 8 b) → word (drop 8 a ++ 0 ∷ 0 ∷ []) ≡ word (drop 8 b ++ 0 ∷ 0 ∷ []) → take m a ≡ take n b
packed-eq a b m n la lb ba bb count low high =
    let front : take 8 a ≡ take 8 b = word-eq (take 8 a) (take 8 b) (omega (arith, length-take 8 a)) (omega (arith, length-take 8 b)) (bytes-take 8 a ba) (bytes-take 8 b bb) low in
    let da : length (drop 8 a) ≡ 6 = omega (arith, length-drop 8 a) in
    let db : length (drop 8 b) ≡ 6 = omega (arith, length-drop 8 b) in
    let ends = word-eq (drop 8 a ++ 0 ∷ 0 ∷ []) (drop 8 b ++ 0 ∷ 0 ∷ []) (omega (arith, length-append (drop 8 a) (0 ∷ 0 ∷ []))) (omega (arith, length-append (drop 8 b) (0 ∷ 0 ∷ [])))
    (bytes-append (drop 8 a) (0 ∷ 0 ∷ []) (bytes-drop 8 a ba) bytes-last) (bytes-append (drop 8 b) (0 ∷ 0 ∷ []) (bytes-drop 8 b bb) bytes-last) high in
    let whole : a ≡ b = sym (take-append-drop 8 a) ∙ ap₂ (λ (x y : List ℕ). x ++ y) front (last-eq (drop 8 a) (drop 8 b) da db ends) ∙ take-append-drop 8 b in
    ap₂ take count whole

-- equal texts are stored in equal bytes, and are as long
pub packed-same : (a b : List ℕ) (m n : ℕ) → length a ≡ 14 → length b ≡ 14 → m ≤ 14 → n ≤ 14 → a ≡ take m a ++ replicate (14 - m) 0 → b ≡ take n b ++ replicate (14 - n) 0
    → take m a ≡ take n b → (m ≡ n) × (a ≡ b)
packed-same a b m n la lb hm hn ra rb e =
    let count : m ≡ n = sym (length-take-le m a (omega (arith, la))) ∙ ap length e ∙ length-take-le n b (omega (arith, lb)) in
    (count, ra ∙ ap₂ (λ (t : List ℕ) (k : ℕ). t ++ replicate (14 - k) 0) e count ∙ sym rb)
