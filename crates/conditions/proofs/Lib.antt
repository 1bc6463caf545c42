mod ZeroNumbers
