use Rattle.std.proofs.Common.{◌≡◌, ℕ, ◌<◌, ◌≤◌, List, length, vec_items, Ok, Err, Result, MatchResult, sym, subst, ap, ◌∙◌, arith}
use Rattle.std.proofs.lemmas.List.{take_at}
use Rattle.console.proofs.store.Store.open.Goals as goal
use Rattle.console.specs.Keeping.{Opened, lamps_joined}
use Rattle.console.specs.declared.store.Store.{Store}
use Rattle.keys.specs.contracts.word.WordKeyKind.TheImpl.{ghosts as word_kind}
use Rattle.keys.specs.declared.values.Word.{Word}
use Rattle.pool.specs.Opening.{Opens}
use Rattle.pool.specs.declared.book.Book.{Book}
use Rattle.pool.specs.declared.node.Node.{Node}
use Rattle.pool.specs.declared.refusal.OpenRefusal.{OpenRefusal}
use Rattle.pool.specs.declared.refusal.OpenRefusal.TheVariants.{TooManyNodes}
use Rattle.script.specs.Values.{Lamp}
use Rattle.std.specs.Result.{IsOkAnd}

-- a store over nodes that were opened, as many as were asked for or one too many
module _ (count : ℕ) (lent left : List (Node Word Lamp)) (few : length lent ≤ 4096 → length lent ≡ count) (many : 4096 < length lent → 4096 < count) where
  stored : (opening : Result Book OpenRefusal) (store : Result Store OpenRefusal) (Made : Book → Store → Type 0) → ((b : Book) (s : Store) → Made b s → (vec_items s.nodes ≡ left) × (s.book ≡ b)) → Opens word_kind lent left opening → MatchResult opening (λ b. IsOkAnd store (Made b)) (λ e. store ≡ Err e) → Opened count store
  stored (Ok b) (Ok s) Made made opens m =
      let same = made b s m in
      let all = few opens.0 in
      (omega (arith, opens.0, all), rw (same.0, same.1, ← all) (opens.1 lamps_joined))
  stored (Ok b) (Err e) Made made opens m = absurd m
  stored (Err TooManyNodes) store Made made opens m = subst (Opened count) (sym m) (many opens.0)

pub returns : goal.returns
returns c =
    let nodes = c.in_ok-nodes.nodes in
    let many = c.in_ok-nodes.ensures.len in
    let length_kept : length c.open.new.nodes ≡ nodes.len = omega (arith, c.open.auto.nodes, c.as_mut_slice.ensures.len) in
    let whole = take_at c.open.new.nodes _ nodes.len length_kept in
    record {
      opens_an_empty_pool = stored
          c.args.count
          c.as_mut_slice.result.now
          c.open.new.nodes
          (λ h. omega (arith, h, c.as_mut_slice.ensures.len, many, c.min-count.ensures))
          (λ h. omega (arith, h, c.as_mut_slice.ensures.len, many, c.min-count.ensures))
          c.open.result
          c.map.result
          _
          (λ b s m. (ap vec_items m.0 ∙ whole, m.1))
          c.open.ensures.opens_an_empty_pool
          c.map.ensures.cases;
    }
