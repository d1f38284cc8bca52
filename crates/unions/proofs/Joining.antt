-- The union of two maps, from the work on their trees.
use Rattle.std.proofs.Common.{◌≡◌, ℕ, ◌+◌, ◌≤◌, List, [], ◌∷◌, Some, sym, ap, ◌∙◌, arith}
use Rattle.keys.specs.Model.{KeyModel}
use Rattle.trees.specs.Tree.{Tree, root, key, uses_if_any, times}
use Rattle.trees.proofs.Order.{agree_none}
use Rattle.pool.specs.declared.node.Node.{Node}
use Rattle.pool.specs.declared.account.Account.{Account}
use Rattle.pool.specs.Walks.{Rooted, BesideBoth, Left}
use Rattle.pool.proofs.Standing.{root_within}
use Rattle.unions.specs.Work.{tree_uses, Outcome, Work}
use Rattle.unions.specs.Unites.{in_either}
use Rattle.unions.proofs.Working.{only_one}

some_same : (a b : ℕ) → Some a ≡ Some b → b ≡ a
some_same a b e = cc

module _ {K V : Type 0} (κ : KeyModel K) (join : V → V → V) (ns : List (Node K V)) (account : Account) (top second : ℕ) (t u : Tree K V) (chain : List ℕ)
    (rooted : Rooted κ ns (Some top) (Some t)) (other : Rooted κ ns (Some second) (Some u)) (beside : BesideBoth ns account (Some t) (Some u) chain) (free : 1 ≤ account.free) where
  come_to : (end : List (Node K V)) (last : Account) → Work κ join ns account account.capacity (record { into = top; from = second } ∷ []) end last
      → Outcome κ join ns account (record { into = t; add = u; least = 0 } ∷ []) chain end last
  come_to end last work = work (record { into = t; add = u; least = 0 } ∷ []) chain (record {
    fits = (
      record {
        into_root = some_same top (root t) rooted.rooted;
        add_root = some_same second (root u) other.rooted;
        into_stands = rooted.stands;
        add_stands = other.stands;
        into_ordered = rooted.ordered;
        add_ordered = other.ordered;
        shared = (key t, agree_none κ (key t) t, agree_none κ (key t) u);
        deep = omega arith;
        bounded = omega arith;
      },
      tt,
    );
    linked = beside.linked;
    counted = beside.counted;
    room = free;
    once = λ j. omega (arith, beside.once j);
    light = omega (arith, beside.few);
    few = omega (arith, beside.few);
  })

  pub united_left : (ns' : List (Node K V)) (after : Account) → Work κ join ns account account.capacity (record { into = top; from = second } ∷ []) ns' after
      → Left κ ns ns' (in_either κ join (Some t) (Some u)) (λ j. uses_if_any j (Some t) + uses_if_any j (Some u) + times j chain) account after (Some top)
  united_left ns' after work =
      let o = come_to ns' after work in
      let (r, et, un, st) = only_one κ join ns' _ o.trees o.each in
      record {
        map = Some r;
        chain = o.chain;
        standing = record { rooted = rooted.rooted ∙ ap Some (sym un.rooted); stands = st; ordered = un.ordered };
        found = un.found;
        linked = o.linked;
        counted = o.counted;
        capacity = o.capacity;
        used = λ j. omega (arith, o.used j, ap (tree_uses j) et);
        kept = λ j h. o.kept j (omega arith);
      }

  -- where the work could come to anything, there are no such trees
  pub united_never : ((end : List (Node K V)) (last : Account) → Work κ join ns account account.capacity (record { into = top; from = second } ∷ []) end last) → ⊥
  united_never bad =
      let o = come_to [] account (bad [] account) in
      let (r, et, un, st) = only_one κ join [] _ o.trees o.each in omega (arith, root_within [] r st)
