-- Where a tree begins.
use Rattle.tla_lex.specs.declared.token.Place.{Place}
use Rattle.tla_tree.specs.Tree.{Tree, Name, Number, Text, Word, At, Paren, Listing, Call, Prime, Index, Field, Unary, Binary, Quantified, Choose, If, Case, Let, Junction, Filter, Image, Function, FunctionSet, Record, RecordSet, Except, Action, Fair, Product}

abbrev pub place : Tree → Place
place (Name w) = w.place
place (Number at _) = at
place (Text at _) = at
place (Word at _) = at
place (At at) = at
place (Paren at _) = at
place (Listing at _ _) = at
place (Call w _) = w.place
place (Prime at _) = at
place (Index at _ _) = at
place (Field at _ _) = at
place (Unary at _ _) = at
place (Binary at _ _ _ _) = at
place (Quantified at _ _ _) = at
place (Choose at _ _ _) = at
place (If at _ _ _) = at
place (Case at _ _) = at
place (Let at _ _) = at
place (Junction at _ _) = at
place (Filter at _ _ _) = at
place (Image at _ _) = at
place (Function at _ _) = at
place (FunctionSet at _ _) = at
place (Record at _) = at
place (RecordSet at _) = at
place (Except at _ _) = at
place (Action at _ _ _) = at
place (Fair at _ _ _) = at
place (Product at _ _) = at
