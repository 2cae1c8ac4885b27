use Rattle.tla_value.specs.Tree.{trees, pairs}
use Rattle.tla_value.specs.TreeHash.{word_of, trees_writes, pairs_writes}
use Rattle.tla_value.proofs.Same.{told_sets, told_funs, apart}
use Rattle.tla_value.proofs.equality.equal_whole.Goals as goal

pub returns-else-hash_word : goal.returns-else-hash_word
returns-else-hash_word c =
    let a = c.in-Set-Set in
    rw (a.is-0, a.is-1) (told_sets _ a.x a.y (apart (λ ts. word_of (trees_writes (trees ts))) a.x a.y c.hash_word.result c.hash_word-in-Set-Set.result c.hash_word.ensures c.hash_word-in-Set-Set.ensures c.if-hash_word.false))

pub returns-else-hash_word-2 : goal.returns-else-hash_word-2
returns-else-hash_word-2 c =
    let a = c.in-Fun-Fun in
    rw (a.is-0, a.is-1) (told_funs _ a.x a.y (apart (λ ps. word_of (pairs_writes (pairs ps))) a.x a.y c.hash_word-in-Fun-Fun.result c.hash_word-in-Fun-Fun-2.result c.hash_word-in-Fun-Fun.ensures c.hash_word-in-Fun-Fun-2.ensures c.if-hash_word-2.false))
