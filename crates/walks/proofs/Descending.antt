-- The walk to the leaf to which bits lead, and what that leaf says of a key.
use Rattle.std.proofs.Common.{◌≡◌, ℕ, ◌+◌, Bool, true, false, cond, List, Some, None, Ok, Err, Option, Result, sym, refl, ap, ◌∙◌, subst, subst₂, MatchResult}
use Rattle.std.specs.Prelude.{◌≢◌}
use Rattle.std.specs.Bool.{then_some}
use Rattle.keys.specs.Model.{KeyModel, KeyLaws, number}
use Rattle.trees.specs.Tree.{Tree, leaf, branch, root, entries, entries_if_any, first_entry}
use Rattle.trees.specs.Order.{Ordered}
use Rattle.trees.specs.Find.{same_key, lookup}
use Rattle.trees.proofs.Lookup.{lookup_side, same_key_true, same_key_false}
use Rattle.pool.specs.declared.node.Node.{Node}
use Rattle.pool.specs.declared.outoforder.OutOfOrder.{OutOfOrder}
use Rattle.walks.specs.declared.step.Step.{Step}
use Rattle.walks.specs.declared.step.Step.TheVariants.{Leaf, Branch}
use Rattle.walks.specs.declared.descent.Parent.{Parent}
use Rattle.walks.specs.declared.descent.Landing.{Landing}
use Rattle.walks.specs.Leads.{Stepped, Grows}
use Rattle.walks.specs.Landings.{landing, Lands, LandsIfAny}
use Rattle.walks.proofs.Growing.{grown_leaf, grown_branch}

-- an answer names the leaf to which the bits lead in u
abbrev pub Landed : {K V : Type 0} → (ℕ → Bool) → Option Parent → Result (Landing K V) OutOfOrder → Tree K V → Type 0
Landed goes above r u = MatchResult r (λ d. d ≡ landing goes above u) (λ _. ⊥)

module _ {K V : Type 0} (κ : KeyModel K) (ns : List (Node K V)) (goes : ℕ → Bool) where
  -- an answer that is right of whatever tree grows at `at`, under `above`, is right of the tree at `top`
  abbrev pub Onward : ℕ → ℕ → ℕ → Option Parent → Type 0
  Onward top least at above =
      (r : Result (Landing K V) OutOfOrder) → ((u : Tree K V) → Grows κ ns least at u → Landed goes above r u)
      → (t : Tree K V) → Grows κ ns 0 top t → Landed goes None r t

  module _ (top least at : ℕ) (above : Option Parent) (onward : Onward top least at above) where
    pub onward_leaf : {k : K} {v : V} {s : Step K V} → Stepped ns least at s → s ≡ Leaf k v
        → (t : Tree K V) → Grows κ ns 0 top t → record { at = at; own = k; held = v; parent = above } ≡ landing goes None t
    onward_leaf {k} {v} a is = onward (Ok _) (grown_leaf κ ns least at (Landed goes above (Ok _)) a is refl)

    -- past a branch to the side that the bit names
    pub onward_below : {p : ℕ} {k : K} {left right near far : ℕ} {s : Step K V} → Stepped ns least at s → s ≡ Branch p k left right
        → near ≡ cond (goes p) right left → far ≡ cond (goes p) left right → Onward top (p + 1) near (Some (record { at = at; sibling = far }))
    onward_below {p} {k} {left} {right} {near} {far} a is en ef r below =
        onward r (grown_branch κ ns least at (Landed goes above r) a is
        (λ l m hl hm o. by_bit (goes p) l m hl hm
        (subst₂ (λ (n f : ℕ). (u : Tree K V) → Grows κ ns (p + 1) n u → Landed goes (Some (record { at = at; sibling = f })) r u) en ef below)))
      where
        by_bit : (b : Bool) (l m : Tree K V) → Grows κ ns (p + 1) left l → Grows κ ns (p + 1) right m
            → ((u : Tree K V) → Grows κ ns (p + 1) (cond b right left) u → Landed goes (Some (record { at = at; sibling = cond b left right })) r u)
            → MatchResult r (λ d. d ≡ cond b (landing goes (Some (record { at = at; sibling = root l })) m) (landing goes (Some (record { at = at; sibling = root m })) l)) (λ _. ⊥)
        by_bit true l m hl hm next = subst (λ (n : ℕ). Landed goes (Some (record { at = at; sibling = n })) r m) (sym hl.rooted) (next m hm)
        by_bit false l m hl hm next = subst (λ (n : ℕ). Landed goes (Some (record { at = at; sibling = n })) r l) (sym hm.rooted) (next l hl)

-- down side 0 stands the first entry
pub landing_first : {K V : Type 0} (above : Option Parent) (t : Tree K V) → ((landing (λ _. false) above t).own, (landing (λ _. false) above t).held) ≡ first_entry t
landing_first above (leaf i k v) = refl
landing_first above (branch i p k l r) = landing_first _ l

module _ {K V : Type 0} (κ : KeyModel K) (x : K) where
  -- a key finds what that leaf holds, if the leaf has the key
  lookup_landing : (least : ℕ) (above : Option Parent) (t : Tree K V) → Ordered κ least t
      → lookup κ (entries t) x ≡ cond (same_key κ (landing (κ.bit x) above t).own x) (Some (landing (κ.bit x) above t).held) None
  lookup_landing least above (leaf i k v) o = refl
  lookup_landing least above (branch i p k l r) o =
      by_bit (κ.bit x p) refl (lookup_landing (p + 1) _ l o.4) (lookup_landing (p + 1) _ r o.5)
    where
      left : Landing K V
      left = landing (κ.bit x) (Some (record { at = i; sibling = root r })) l

      right : Landing K V
      right = landing (κ.bit x) (Some (record { at = i; sibling = root l })) r

      by_bit : (b : Bool) → κ.bit x p ≡ b → lookup κ (entries l) x ≡ cond (same_key κ left.own x) (Some left.held) None
          → lookup κ (entries r) x ≡ cond (same_key κ right.own x) (Some right.held) None
          → lookup κ (entries (branch i p k l r)) x ≡ cond (same_key κ (cond b right left).own x) (Some (cond b right left).held) None
      by_bit true e hl hr = lookup_side κ x least i p k l r o true e ∙ hr
      by_bit false e hl hr = lookup_side κ x least i p k l r o false e ∙ hl

  -- and so a landing in a tree in order tells what x finds
  pub lands : KeyLaws κ → (t : Tree K V) → Ordered κ 0 t → (d : Landing K V) → d ≡ landing (κ.bit x) None t → Lands κ x d t
  lands law t o d e = record {
    leads = e;
    hit = λ same. found ∙ ap (λ z. cond z (Some d.held) None) (same_key_true κ d.own x (ap (number κ) same));
    miss = λ other. found ∙ ap (λ z. cond z (Some d.held) None) (same_key_false κ d.own x (λ n. other (law.same_number d.own x n)));
  } where
    found : lookup κ (entries t) x ≡ cond (same_key κ d.own x) (Some d.held) None
    found = lookup_landing 0 None t o ∙ ap (λ (q : Landing K V). cond (same_key κ q.own x) (Some q.held) None) (sym e)

  pub landed_lands : KeyLaws κ → (t : Tree K V) → Ordered κ 0 t → (r : Result (Landing K V) OutOfOrder) → Landed (κ.bit x) None r t
      → MatchResult r (λ d. LandsIfAny κ x d (Some t)) (λ _. ⊥)
  landed_lands law t o (Err f) h = h
  landed_lands law t o (Ok d) h = lands law t o d h

  pub lands_hit : (d : Landing K V) (map : Option (Tree K V)) → LandsIfAny κ x d map → d.own ≡ x → lookup κ (entries_if_any map) x ≡ Some d.held
  lands_hit d None lands = absurd lands
  lands_hit d (Some t) lands = lands.hit

  pub lands_miss : (d : Landing K V) (map : Option (Tree K V)) → LandsIfAny κ x d map → (d.own ≡ x → ⊥) → lookup κ (entries_if_any map) x ≡ None
  lands_miss d None lands = absurd lands
  lands_miss d (Some t) lands = lands.miss

  -- and so by any test that tells the two keys apart
  pub lands_tested : (d : Landing K V) (map : Option (Tree K V)) → LandsIfAny κ x d map → (b : Bool) → (b ≡ true → d.own ≡ x) → (b ≡ false → d.own ≢ x)
      → lookup κ (entries_if_any map) x ≡ then_some b d.held
  lands_tested d map lands true same other = lands_hit d map lands (same refl)
  lands_tested d map lands false same other = lands_miss d map lands (other refl)
