-- A word that is no call's name.
use Rattle.std.proofs.Common.{◌≡◌, ℕ, ◌<◌, false, List, Ok, Err, None, Result, MatchResult, IsUtf8, sym, subst}
use Rattle.std.specs.List.{AllByRecursion}
use Rattle.std.specs.Result.{result_ok}
use Rattle.std.specs.Str.{bytes_eq}
use Rattle.std.proofs.ByRecursion.{IsAscii-from_all}
use Rattle.std.proofs.lemmas.Bool.Decides.{same_from_decides}
use Rattle.std.proofs.lemmas.Slice.Eq.{bytes_eq-Decides}
use Rattle.std.proofs.lemmas.Str.{IsUtf8-from_ascii}

pub no_text_no_name : (name word : List ℕ) → (IsUtf8 name → ⊥) → AllByRecursion (λ b. b < 128) word → bytes_eq name word ≡ false
no_text_no_name name word broken ascii =
    let apart = λ (e : name ≡ word). broken (subst IsUtf8 (sym e) (IsUtf8-from_ascii word (IsAscii-from_all word ascii))) in
    same_from_decides (bytes_eq name word) false (bytes_eq-Decides name word) ((λ e. absurd (cc)), (λ e. absurd (apart e)))

-- bytes of which no text was made
pub no_text : {T E : Type 0} (r : Result T E) (P : T → Type 0) (broken : Type 0) (Q : E → Type 0) → None ≡ result_ok r → MatchResult r P (λ e. broken × Q e) → broken
no_text (Ok x) P broken Q e h = absurd (cc)
no_text (Err d) P broken Q e h = h.0
