use Rattle.csv_fields.proofs.reading.value_of.Goals as goal

pub returns-in-IntKey : goal.returns-in-IntKey
returns-in-IntKey c = rw c.in-IntKey.is (record { exact = c.int_value.ensures.exact })

pub returns-in-TextKey : goal.returns-in-TextKey
returns-in-TextKey c = rw c.in-TextKey.is (record { exact = c.text_value.ensures.exact })

pub returns-in-Int8Vector : goal.returns-in-Int8Vector
returns-in-Int8Vector c = rw c.in-Int8Vector.is (record { exact = c.int8_value.ensures.exact })

pub returns-in-BitVector : goal.returns-in-BitVector
returns-in-BitVector c = rw c.in-BitVector.is (record { exact = c.bits_value.ensures.exact })

pub returns-in-IntPartition : goal.returns-in-IntPartition
returns-in-IntPartition c = rw c.in-IntPartition.is (record { exact = c.int_value-in-IntPartition.ensures.exact })

pub returns-in-TextPartition : goal.returns-in-TextPartition
returns-in-TextPartition c = rw c.in-TextPartition.is (record { exact = c.text_value-in-TextPartition.ensures.exact })

pub returns-in-IntMeta : goal.returns-in-IntMeta
returns-in-IntMeta c = rw c.in-IntMeta.is (record { exact = c.int_value-in-IntMeta.ensures.exact })

pub returns-in-TextMeta : goal.returns-in-TextMeta
returns-in-TextMeta c = rw c.in-TextMeta.is (record { exact = c.text_value-in-TextMeta.ensures.exact })

pub returns-in-BoolMeta : goal.returns-in-BoolMeta
returns-in-BoolMeta c = rw c.in-BoolMeta.is (record { exact = c.bool_value.ensures.exact })
