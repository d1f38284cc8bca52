-- A list by its elements, one by one.
use Rattle.std.proofs.Common.{◌≡◌, ℕ, zero, suc, List, [], ◌∷◌, length, get_or, refl, ap, ◌∙◌, subst}
use Rattle.number_bytes.specs.BigEndian.{Octets}
use Rattle.number_bytes.proofs.Octets.{octets_nil, octets_cons}

-- k elements of the list, from the i-th on
abbrev pub listing : ℕ → ℕ → List ℕ → List ℕ
listing zero i l = []
listing (suc k) i l = get_or l i 0 ∷ listing k (suc i) l

listing_next : (k i x : ℕ) (xs : List ℕ) → listing k (suc i) (x ∷ xs) ≡ listing k i xs
listing_next zero i x xs = refl
listing_next (suc k) i x xs = ap (λ (t : List ℕ). get_or xs i 0 ∷ t) (listing_next k (suc i) x xs)

listing_length : (l : List ℕ) → listing (length l) 0 l ≡ l
listing_length [] = refl
listing_length (x ∷ xs) = ap (λ (t : List ℕ). x ∷ t) (listing_next (length xs) 0 x xs ∙ listing_length xs)

-- a list is the list of all its elements
pub listing_all : (k : ℕ) (l : List ℕ) → length l ≡ k → listing k 0 l ≡ l
listing_all k l e = subst (λ (n : ℕ). listing n 0 l ≡ l) e (listing_length l)

pub octets_listing : (k i : ℕ) (l : List ℕ) → Octets l → Octets (listing k i l)
octets_listing zero i l o = octets_nil
octets_listing (suc k) i l o = octets_cons (get_or l i 0) (listing k (suc i) l) (o i) (octets_listing k (suc i) l o)
