-- A step whose two trees part: a branch over both takes the first tree's node, and what stood there moves to a free one.
use Rattle.std.proofs.Common.{◌≡◌, ℕ, ◌+◌, ◌<◌, ◌≤◌, Bool, true, false, cond, not, List, [], ◌∷◌, set, sym, refl, ap, ◌∙◌, subst, ⊎_elim, arith, length-set}
use Rattle.std.proofs.lemmas.Bool.{cases_lt}
use Rattle.keys.specs.Model.{KeyModel}
use Rattle.trees.specs.Tree.{Tree, branch, root, key, one, uses, move}
use Rattle.trees.specs.Order.{Agree, place}
use Rattle.trees.specs.Union.{Union}
use Rattle.trees.proofs.Move.{one_same, root_move, uses_move}
use Rattle.trees.proofs.Sizes.{size_pos}
use Rattle.trees.proofs.Order.{ordered_from_place, place_within, keys_on_side}
use Rattle.trees.proofs.Parting.{turned_bit}
use Rattle.trees.proofs.Union.{union_apart}
use Rattle.pool.specs.declared.node.Node.{Node}
use Rattle.pool.specs.declared.node.Node.TheVariants.{Branch}
use Rattle.pool.specs.declared.account.Account.{Account}
use Rattle.pool.specs.Slice.{At, Stands}
use Rattle.pool.specs.Nodes.{Took}
use Rattle.pool.proofs.Reading.{one_node, written_there, kept_elsewhere}
use Rattle.pool.proofs.After.{stands_kept}
use Rattle.edits.proofs.Writing.{at_same, not_one, stands_moved, chain_kept, took_first}
use Rattle.unions.specs.declared.job.Job.{Job}
use Rattle.unions.specs.Work.{Item, tree_uses, Ready, Outcome, Work}
use Rattle.unions.specs.Steps.{Parted}
use Rattle.unions.proofs.Working.{Advance, advance, only_none}
use Rattle.unions.proofs.Facing.{uses_rooted, parts_later}

module _ {K V : Type 0} where
  fork_stands : (b : Bool) (ns : List (Node K V)) (x y m a : ℕ) (k : K) (t u : Tree K V) → At ns x (Branch m k (cond b y a) (cond b a y)) → root t ≡ x → root u ≡ y
      → Stands ns (move a t) → Stands ns u → Stands ns (branch (root t) m k (cond b u (move a t)) (cond b (move a t) u))
  fork_stands true ns x y m a k t u at ex ey st su = (at_same ns (root t) x _ _ ex (let z = root_move a t in cc) at, su, st)
  fork_stands false ns x y m a k t u at ex ey st su = (at_same ns (root t) x _ _ ex (let z = root_move a t in cc) at, st, su)

  fork_uses : (b : Bool) (j m a : ℕ) (k : K) (t u : Tree K V) → uses j (branch (root t) m k (cond b u (move a t)) (cond b (move a t) u)) ≡ uses j t + uses j u + one a j
  fork_uses true j m a k t u = omega (arith, uses_move j a t)
  fork_uses false j m a k t u = omega (arith, uses_move j a t)

module _ {K V : Type 0} (κ : KeyModel K) (join : V → V → V) (ns ns' : List (Node K V)) (account after : Account) (turns : ℕ) (job : Job) (old : Node K V) (m : ℕ) (rest : List Job)
    (end : List (Node K V)) (last : Account) (t u : Tree K V) (least : ℕ) (is : List (Item K V)) (at : At ns job.into old)
    (mt : m < place κ t) (mu : m < place κ u) (agree : Agree κ m (key u) (key t)) (differ : κ.bit (key u) m ≡ κ.bit (key t) m → ⊥) where
  module _ (b : Bool) (eb : κ.bit (key t) m ≡ b) (f : ℕ) (fs : List ℕ) (ready : Ready κ ns account (turns + 1) (job ∷ rest) (record { into = t; add = u; least = least } ∷ is) (f ∷ fs))
      (moved : ℕ) (took : Took ns account moved after)
      (written : ns' ≡ set (set ns moved old) job.into (Branch m (key t) (cond b job.from moved) (cond b moved job.from))) where
    abbrev fork : Node K V
    fork = Branch m (key t) (cond b job.from moved) (cond b moved job.from)

    first : (z : ℕ) → one f z ≡ one moved z
    first z = ap (λ w. one w z) (sym (took_first ns account after moved f fs took ready.linked).0)

    own_root : 1 ≤ uses job.into t
    own_root = uses_rooted κ job.into job.into t ready.fits.0.into_root refl

    apart : moved ≡ job.into → ⊥
    apart e = omega (arith, ready.once job.into, own_root, first job.into, one_same moved job.into e)

    keep : (z : ℕ) → (z ≡ moved → ⊥) → (z ≡ job.into → ⊥) → (w : Node K V) → At ns z w → At ns' z w
    keep z zm zx w h = subst (λ (n : List (Node K V)). At n z w) (sym written) (kept_elsewhere _ job.into fork z w zx (kept_elsewhere ns moved old z w zm h))

    not_moved : (z : ℕ) → one f z ≡ 0 → z ≡ moved → ⊥
    not_moved z h = not_one moved z (omega (arith, first z))

    not_top : (z : ℕ) → uses z t ≡ 0 → z ≡ job.into → ⊥
    not_top z h e = omega (arith, uses_rooted κ job.into z t ready.fits.0.into_root e)

    at_moved : At ns' moved old
    at_moved = subst (λ (n : List (Node K V)). At n moved old) (sym written) (kept_elsewhere _ job.into fork moved old apart (written_there ns moved old took.free.0))

    at_top : At ns' job.into fork
    at_top = subst (λ (n : List (Node K V)). At n job.into fork) (sym written) (written_there _ job.into fork (rw length-set at.0))

    stands_first : Stands ns' (move moved t)
    stands_first = stands_moved ns ns' moved t
        (λ x h. at_same ns' moved moved x old refl (one_node ns (root t) job.into x old ready.fits.0.into_root h at) at_moved)
        (λ z h. keep z (not_moved z (omega (arith, ready.once z))) (λ e. omega (arith, ready.once z, one_same (root t) z (ready.fits.0.into_root ∙ sym e))))
        ready.fits.0.into_stands

    stands_second : Stands ns' u
    stands_second = stands_kept ns ns' u (λ z h. keep z (not_moved z (omega (arith, ready.once z))) (not_top z (omega (arith, ready.once z)))) ready.fits.0.add_stands

    later : least ≤ m
    later = ⊎_elim
        (λ lt. absurd (parts_later κ least m t u ready.fits.0.into_ordered ready.fits.0.add_ordered ready.fits.0.shared mt mu differ lt)) (λ ge. ge)
        (cases_lt m least)

    united : Union κ join least t u (branch (root t) m (key t) (cond b u (move moved t)) (cond b (move moved t) u))
    united = union_apart κ join b least m moved (key t) t u later (omega (arith, place_within κ least t ready.fits.0.into_ordered))
        (keys_on_side κ least m b (key t) t mt (λ q l. refl) eb ready.fits.0.into_ordered)
        (keys_on_side κ least m (not b) (key t) u mu agree (turned_bit (κ.bit (key t) m) (κ.bit (key u) m) (λ e. differ (sym e)) ∙ ap not eb) ready.fits.0.add_ordered)
        (ordered_from_place κ least (m + 1) t (omega arith) ready.fits.0.into_ordered)
        (ordered_from_place κ least (m + 1) u (omega arith) ready.fits.0.add_ordered)

    forked : Advance κ join ns account turns job rest end last t u least is (f ∷ fs) ready ns' after [] [] fs (λ z. uses z t + uses z u + one f z)
    forked = record {
      changed = λ z h. keep z (not_moved z (omega arith)) (not_top z (omega arith));
      balance = λ z. omega arith;
      fits = λ h. h;
      linked = chain_kept ns ns' after.head fs (λ z h. keep z (not_moved z (omega (arith, ready.once z))) (not_top z (omega (arith, ready.once z))))
          (took_first ns account after moved f fs took ready.linked).1;
      counted = omega (arith, ready.counted, took.fewer);
      capacity = took.capacity;
      room = omega (arith, ready.room, took.fewer);
      lighter = omega (arith, size_pos t, size_pos u);
      few = omega arith;
      made = λ ts each kept.
          let none = only_none κ join end ts each in (
            branch (root t) m (key t) (cond b u (move moved t)) (cond b (move moved t) u),
            united,
            fork_stands b end job.into job.from m moved (key t) t u (kept job.into (omega (arith, own_root)) _ at_top) ready.fits.0.into_root ready.fits.0.add_root
                (stands_kept ns' end (move moved t) (λ z h. kept z (omega (arith, uses_move z moved t, first z))) stands_first)
                (stands_kept ns' end u (λ z h. kept z (omega arith)) stands_second),
            λ z. omega (arith, fork_uses b z m moved (key t) t u, ap (tree_uses z) none, first z),
          );
    }

  -- the step of trees that part does its part
  pub parted_trees : (chain : List ℕ) → Ready κ ns account (turns + 1) (job ∷ rest) (record { into = t; add = u; least = least } ∷ is) chain
      → Parted κ ns ns' account job old m (key t) after → Work κ join ns' after turns rest end last
      → Outcome κ join ns account (record { into = t; add = u; least = least } ∷ is) chain end last
  parted_trees [] ready parted next = absurd (omega (arith, ready.room, ready.counted))
  parted_trees (f ∷ fs) ready parted next =
      advance κ join ns account turns job rest end last t u least is (f ∷ fs) ready ns' after [] [] fs _
      (forked (κ.bit (key t) m) refl f fs ready parted.moved parted.took (parted.written at.0)) next
